use Rattle.std.proofs.Common.{Some, None, map, ap, sym, ◌∙◌}
use Rattle.std.specs.Prelude.{slice_get}
use Rattle.ir_core.specs.declared.module.Module.{Module}
use Rattle.ir_core.specs.Places.{place_in, global_name}
use Rattle.name_tables.proofs.First.{found_at}
use Rattle.name_tables.proofs.tables.Tables.global.Goals as goal

pub returns-in-None : goal.returns-in-None
returns-in-None c =
    let place = sym c.in-None.is ∙ c.global.ensures ∙ ap (λ (m : Module). place_in (map global_name m.globals) c.args.name.now) c.self.view_is in
    found_at global_name c.args.self.now.globals c.args.name.now None place

pub returns-in-Some : goal.returns-in-Some
returns-in-Some c =
    let place = sym c.in-Some.is ∙ c.global.ensures ∙ ap (λ (m : Module). place_in (map global_name m.globals) c.args.name.now) c.self.view_is in
    c.get.ensures.value
    ∙ ap (λ (m : Module). slice_get m.globals c.in-Some.at) c.module.ensures
    ∙ found_at global_name c.args.self.now.globals c.args.name.now (Some c.in-Some.at) place
