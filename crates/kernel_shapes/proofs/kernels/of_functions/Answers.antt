use Rattle.std.proofs.Common.{sym, ap, ◌∙◌}
use Rattle.name_tables.proofs.RefusalLaws.{first_more}
use Rattle.name_tables.specs.Least.{or_first}
use Rattle.shapes.specs.KernelShape.{of_function}
use Rattle.kernel_shapes.proofs.kernels.of_functions.Goals as goal

pub loop-f-preserved : goal.loop-f-preserved
loop-f-preserved c =
    let f = c.f-item.result in
    c.earlier-found.ensures
    ∙ ap (λ o. or_first o c.in_ok-of_function.field-0) c.loop-f.invariant
    ∙ ap (or_first _) c.in_ok-of_function.ensures
    ∙ sym (first_more (of_function c.args.m.now) c.args.functions.now c.loop-f.f-index f f c.loop-f-test.true c.f-item.is)
