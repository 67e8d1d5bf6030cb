use Rattle.std.proofs.Common.{ap, ◌∙◌}
use Rattle.std.specs.List.{flat_map}
use Rattle.ir_core.specs.NameRefusals.{least}
use Rattle.ir_core.specs.declared.module.Module.{Module}
use Rattle.shape_facts.proofs.InstLaws.{two_told}
use Rattle.shapes.specs.Facts.{insts_in}
use Rattle.shapes.specs.Wrappers.{of_function, of_fork}
use Rattle.wrapper_shapes.proofs.told.of_wrappers.Goals as goal

pub returns : goal.returns
returns c =
    let m = c.args.m.now in
    let functions = c.as_slice.ensures ∙ ap (λ (k : Module). k.functions) c.module.ensures in
    let wrappers = c.in_ok-wrappers.ensures ∙ ap (λ fs. least (flat_map (of_function m) fs)) functions in
    let forks = c.of_forks.ensures ∙ ap (λ is. least (flat_map (of_fork m) is)) c.requires.insts in
    c.earlier.ensures ∙ two_told (flat_map (of_function m) m.functions) (flat_map (of_fork m) (insts_in m)) c.in_ok-wrappers.wrappers c.of_forks.result wrappers forks
