use Rattle.std.proofs.Common.{◌≡◌, ◌++◌, take}
use Rattle.std.specs.List.{flat_map}
use Rattle.shapes.specs.Insts.{insts_seen, block_insts}
use Rattle.shape_facts.proofs.insts.add_function.Given as goal

abbrev pub invariant-loop-block : goal.invariant-loop-block
invariant-loop-block l = insts_seen l.insts ≡ insts_seen l.initial.insts ++ flat_map block_insts (take l.block-index l.f.blocks)
