use Rattle.std.proofs.Common.{ap, ◌∙◌}
use Rattle.std.specs.List.{flat_map, list_any}
use Rattle.ir_core.specs.declared.module.Module.{Module}
use Rattle.ir_core.specs.NameRefusals.{least}
use Rattle.shape_facts.proofs.InstLaws.{two_told}
use Rattle.shapes.specs.KernelShape.{shaped, is_kernel, of_function}
use Rattle.kernel_shapes.proofs.kernels.of_kernels.Goals as goal

pub returns : goal.returns
returns c =
    let m = c.args.m.now in
    let all = c.as_slice-functions.ensures ∙ ap (λ (n : Module). n.functions) c.module.ensures in
    c.earlier.ensures
    ∙ two_told (shaped (list_any is_kernel m.functions) 1) (flat_map (of_function m) m.functions) c.rule-some.result c.in_ok-each.each
    (c.rule-some.ensures ∙ ap (λ b. least (shaped b 1)) (c.any_kernel.ensures ∙ ap (list_any is_kernel) all))
    (c.in_ok-each.ensures ∙ ap (λ fs. least (flat_map (of_function m) fs)) all)
