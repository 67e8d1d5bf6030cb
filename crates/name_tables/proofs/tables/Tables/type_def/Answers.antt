use Rattle.std.proofs.Common.{Some, None, map, ap, sym, ◌∙◌}
use Rattle.std.specs.Prelude.{slice_get}
use Rattle.ir_core.specs.declared.module.Module.{Module}
use Rattle.ir_core.specs.Places.{place_in}
use Rattle.ir_tables.specs.Names.{type_name}
use Rattle.name_tables.proofs.First.{found_at}
use Rattle.name_tables.proofs.tables.Tables.type_def.Goals as goal

pub returns-in-None : goal.returns-in-None
returns-in-None c =
    let place = sym c.in-None.is ∙ c.type_place.ensures ∙ ap (λ (m : Module). place_in (map type_name m.types) c.args.name.now) c.self.view_is in
    found_at type_name c.args.self.now.types c.args.name.now None place

pub returns-in-Some : goal.returns-in-Some
returns-in-Some c =
    let place = sym c.in-Some.is ∙ c.type_place.ensures ∙ ap (λ (m : Module). place_in (map type_name m.types) c.args.name.now) c.self.view_is in
    c.get.ensures.value
    ∙ ap (λ (m : Module). slice_get m.types c.in-Some.at) c.module.ensures
    ∙ found_at type_name c.args.self.now.types c.args.name.now (Some c.in-Some.at) place
