use Rattle.std.proofs.Common.{◌≡◌, drop, find}
use Rattle.shapes.specs.Refusals.{is_unbuilt}
use Rattle.ir_shapes.proofs.unbuilt_calls.unbuilt_in.Given as goal

abbrev pub invariant-loop-inst : goal.invariant-loop-inst
invariant-loop-inst l = find is_unbuilt (drop l.inst-index l.block.insts) ≡ find is_unbuilt l.block.insts
