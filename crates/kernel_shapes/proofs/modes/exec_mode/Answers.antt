use Rattle.std.proofs.Common.{Some, None, map, ap, sym, ◌∙◌}
use Rattle.std.specs.Prelude.{slice_get}
use Rattle.ir_core.specs.declared.module.Module.{Module}
use Rattle.ir_core.specs.Places.{place_in, global_name}
use Rattle.name_tables.proofs.First.{found_at}
use Rattle.shapes.specs.KernelShape.{exec_mode_name}
use Rattle.kernel_shapes.proofs.modes.exec_mode.Goals as goal

pub returns-in-None : goal.returns-in-None
returns-in-None c =
    let globals = c.args.m.now.globals in
    let x = exec_mode_name c.args.f.now in
    found_at global_name globals x None (sym c.in-None.is ∙ c.global.ensures ∙ ap (place_in (map global_name globals)) c.in_ok-name.ensures)

pub returns : goal.returns
returns c =
    let globals = c.args.m.now.globals in
    let x = exec_mode_name c.args.f.now in
    c.get.ensures.value
    ∙ ap (λ (m : Module). slice_get m.globals c.in-Some.at) c.module.ensures
    ∙ found_at global_name globals x (Some c.in-Some.at) (sym c.in-Some.is ∙ c.global.ensures ∙ ap (place_in (map global_name globals)) c.in_ok-name.ensures)
