use Rattle.std.proofs.Common.{◌≡◌, take}
use Rattle.std.specs.List.{flat_map}
use Rattle.shapes.specs.Facts.{insts_of}
use Rattle.shapes.specs.Insts.{insts_seen}
use Rattle.shape_facts.proofs.insts.insts_in.Given as goal

abbrev pub invariant-loop-f : goal.invariant-loop-f
invariant-loop-f l = insts_seen l.insts ≡ flat_map insts_of (take l.f-index l.m.functions)
