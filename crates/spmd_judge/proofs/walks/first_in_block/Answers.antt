use Rattle.spmd_judge.specs.Judging.{place_of, BreaksAt}
use Rattle.spmd_judge.proofs.LineLaws.{least_more, least_all}
use Rattle.std.proofs.Common.{◌≡◌, ◌<◌, ℕ, Some, subst, arith}
use Rattle.ir_core.specs.declared.instructions.Inst.{Inst}
use Rattle.ir_core.specs.declared.module.Module.{Module}
use Rattle.ir_core.specs.Places.{inst_at}
use Rattle.spmd_judge.proofs.walks.first_in_block.Goals as goal

pub loop-index-preserved : goal.loop-index-preserved
loop-index-preserved c =
    let Broken : ℕ → ℕ → Type 0 = λ index line. BreaksAt c.args.m.now c.args.rule (place_of c.args.function c.args.block index) line in
    least_more Broken c.loop-index.index c.loop-index.first c.line_at.result c.lesser-first.result c.lesser-first.ensures c.loop-index.invariant c.line_at.ensures

pub returns : goal.returns
returns c =
    let Broken : ℕ → ℕ → Type 0 = λ index line. BreaksAt c.args.m.now c.args.rule (place_of c.args.function c.args.block index) line in
    let Low : Module → Type 0 = λ m. (index : ℕ) (i : Inst) → inst_at m (place_of c.args.function c.args.block index) ≡ Some i → index < c.inst_count-index-end.result in
    let low = subst Low c.module.ensures c.inst_count-index-end.ensures in
    least_all Broken c.loop-index.index c.loop-index.first (λ index line h. let a = low index h.0 h.1 in omega (arith, a, c.loop-index-test.false)) c.loop-index.invariant
