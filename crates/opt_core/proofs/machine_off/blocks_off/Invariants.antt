use Rattle.std.proofs.Common.{◌≡◌, map, take}
use Rattle.ir_core.specs.MachineOff.{block_off}
use Rattle.opt_core.proofs.machine_off.blocks_off.Given as goal

abbrev pub invariant-loop-block : goal.invariant-loop-block
invariant-loop-block l = l.out ≡ map block_off (take l.block-index l.blocks)
