use Rattle.std.proofs.Common.{take}
use Rattle.ir_tables.specs.Names.{AreAllLocals}
use Rattle.ir_tables.proofs.names.all_locals_of.Given as goal

-- the names of the functions so far
abbrev pub invariant-loop-function : goal.invariant-loop-function
invariant-loop-function l = AreAllLocals (take l.function-index l.functions) l.all
