use Rattle.std.proofs.Common.{Some, None, ap, sym, ◌∙◌}
use Rattle.std.specs.Prelude.{slice_get}
use Rattle.ir_core.specs.declared.module.Module.{Module}
use Rattle.ir_core.specs.Places.{function_name}
use Rattle.name_tables.proofs.First.{found_at}
use Rattle.wrapper_shapes.proofs.regions.function_given.Goals as goal

pub returns-in-None : goal.returns-in-None
returns-in-None c = found_at function_name c.args.m.now.functions c.args.name.now None (sym c.in-None.is ∙ c.function.ensures)

pub returns-in-Some : goal.returns-in-Some
returns-in-Some c =
    c.get.ensures.value
    ∙ ap (λ (m : Module). slice_get m.functions c.in-Some.at) c.module.ensures
    ∙ found_at function_name c.args.m.now.functions c.args.name.now (Some c.in-Some.at) (sym c.in-Some.is ∙ c.function.ensures)
