use Rattle.std.proofs.Common.{◌≡◌, ◌++◌, take, map}
use Rattle.ir_core.specs.MachineOff.{block_off}
use Rattle.state_machine.proofs.kernels.add_blocks.Given as goal

abbrev pub invariant-loop-block : goal.invariant-loop-block
invariant-loop-block l = l.out ≡ l.initial.out ++ map block_off (take l.block-index l.blocks)
