use Rattle.spmd_judge.specs.Judging.{place_of, BreaksAt, InBlock}
use Rattle.spmd_judge.proofs.LineLaws.{least_more, least_all}
use Rattle.std.proofs.Common.{◌≡◌, ◌<◌, ℕ, Some, subst, arith}
use Rattle.ir_core.specs.declared.instructions.Inst.{Inst}
use Rattle.ir_core.specs.declared.module.Module.{Module}
use Rattle.ir_core.specs.Places.{inst_at}
use Rattle.spmd_judge.proofs.walks.first_in_function.Goals as goal

pub loop-block-preserved : goal.loop-block-preserved
loop-block-preserved c = least_more (InBlock c.args.m.now c.args.rule c.args.function) c.loop-block.block c.loop-block.first c.first_in_block.result c.lesser-first.result c.lesser-first.ensures c.loop-block.invariant c.first_in_block.ensures

pub returns : goal.returns
returns c =
    let Low : Module → Type 0 = λ m. (block index : ℕ) (i : Inst) → inst_at m (place_of c.args.function block index) ≡ Some i → block < c.block_count-block-end.result in
    let low = subst Low c.module.ensures c.block_count-block-end.ensures in
    least_all (InBlock c.args.m.now c.args.rule c.args.function) c.loop-block.block c.loop-block.first (λ block line h. let d : BreaksAt c.args.m.now c.args.rule (place_of c.args.function block h.0) line = h.1 in let a = low block h.0 d.0 d.1 in omega (arith, a, c.loop-block-test.false)) c.loop-block.invariant
