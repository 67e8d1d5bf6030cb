use Rattle.std.proofs.Common.{◌≡◌, drop}
use Rattle.ir_core.specs.Layout.{WellFormed, Offset}
use Rattle.ir_tables.specs.Walk.{offset_from, StandsIn}
use Rattle.ir_tables.proofs.indexed.Indexed.offset_of.Given as goal

-- the offset from here on is that of the whole path
abbrev pub invariant-loop-index : goal.invariant-loop-index
invariant-loop-index l = WellFormed l.self.types l.ty → StandsIn l.self.types l.walk × (offset_from l.self.types l.walk (drop l.index-index l.path) ≡ Offset l.self.types l.ty l.path)
