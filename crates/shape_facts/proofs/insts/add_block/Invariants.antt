use Rattle.std.proofs.Common.{◌≡◌, ◌++◌, take}
use Rattle.shapes.specs.Insts.{insts_seen}
use Rattle.shape_facts.proofs.insts.add_block.Given as goal

abbrev pub invariant-loop-inst : goal.invariant-loop-inst
invariant-loop-inst l = insts_seen l.insts ≡ insts_seen l.initial.insts ++ take l.inst-index l.block.insts
