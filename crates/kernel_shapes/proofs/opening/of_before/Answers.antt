use Rattle.std.proofs.Common.{ap, sym, ◌∙◌}
use Rattle.ir_core.specs.NameRefusals.{least}
use Rattle.name_tables.specs.Least.{or_first}
use Rattle.name_tables.proofs.RefusalLaws.{first_more}
use Rattle.shapes.specs.KernelShape.{shaped, of_opener}
use Rattle.kernel_shapes.proofs.opening.of_before.Goals as goal

pub loop-inst-preserved : goal.loop-inst-preserved
loop-inst-preserved c =
    let insts = c.args.insts.now in
    let i = c.inst-item.result in
    c.earlier-found.ensures
    ∙ ap (or_first c.loop-inst.found) (c.rule-own.ensures ∙ ap (λ b. least (shaped b i.line)) (c.may_open-holds.ensures insts c.in_ok-pointers.ensures))
    ∙ ap (λ o. or_first o (least (of_opener insts i))) c.loop-inst.invariant
    ∙ sym (first_more (of_opener insts) c.args.before.now c.loop-inst.inst-index i i c.loop-inst-test.true c.inst-item.is)
