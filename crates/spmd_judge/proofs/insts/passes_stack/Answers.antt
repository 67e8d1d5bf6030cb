use Rattle.std.proofs.Common.{◌≡◌, Some, refl, slice_get, arith}
use Rattle.std.proofs.lemmas.Option.{slice_get_within}
use Rattle.call_graph.proofs.ListLaws.{read_at}
use Rattle.spmd_judge.proofs.InstLaws.{none_passed}
use Rattle.spmd_judge.proofs.insts.passes_stack.Goals as goal

pub returns-then-may_be_stack : goal.returns-then-may_be_stack
returns-then-may_be_stack c =
    let operands = c.args.operands.now in
    let n = c.loop-operand.operand-index in
    let v = c.operand-item.result in
    let there : slice_get operands n ≡ Some v = read_at operands operands n v refl c.loop-operand-test.true c.operand-item.is in
    (λ e. (n, v, there, c.may_be_stack.ensures.0 c.if-may_be_stack.true), λ h. refl)

pub loop-operand-preserved : goal.loop-operand-preserved
loop-operand-preserved c =
    let operands = c.args.operands.now in
    let n = c.loop-operand.operand-index in
    let v = c.operand-item.result in
    let there : slice_get operands n ≡ Some v = read_at operands operands n v refl c.loop-operand-test.true c.operand-item.is in
    none_passed c.args.facts.now c.args.function operands n v there (λ may. let is = c.may_be_stack.ensures.1 may in let not = c.if-may_be_stack.false in let f : ⊥ = cc in f) c.loop-operand.invariant

pub returns : goal.returns
returns c = (
  λ e. let f : ⊥ = cc in absurd f,
  λ h. let low = slice_get_within c.args.operands.now h.0 h.1 h.2 in absurd (c.loop-operand.invariant h.1 h.0 (omega (arith, low, c.loop-operand-test.false)) h.2 h.3),
)
