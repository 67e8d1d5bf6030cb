-- What the clauses of a construct may be as operands of the calls that clang writes for them.
use Rattle.std.specs.Prelude.{◌-◌, ◌^◌, List, [], ◌∷◌, Bool, true, not, ◌&&◌, if◌then◌else◌}
use Rattle.std.specs.List.{flat_map, list_any}
use Rattle.ir_core.specs.declared.instructions.Inst.{Inst}
use Rattle.ir_core.specs.declared.module.Module.{Module}
use Rattle.ir_core.specs.declared.refusal.Construct.TheVariants.{ClauseArgument}
use Rattle.ir_core.specs.declared.refusal.Refusal.{Refusal}
use Rattle.ir_core.specs.declared.rtl.Rtl.{Rtl}
use Rattle.ir_core.specs.declared.rtl.Rtl.TheVariants.{TargetInit, TargetDeinit, Parallel, Barrier, GlobalThreadNum, ParallelLevel, ForStaticInit, ForStaticFini}
use Rattle.shapes.specs.Facts.{rule, insts_in, is_call_of, operand_of, is_constant, is_local}

-- the entry points whose first operand is a location of the source
abbrev pub located : List Rtl
located = TargetInit ∷ TargetDeinit ∷ Parallel ∷ Barrier ∷ GlobalThreadNum ∷ ParallelLevel ∷ ForStaticInit ∷ ForStaticFini ∷ []

-- a location is no register
abbrev pub has_location : Inst → Bool
has_location i = if list_any (λ r. is_call_of r i) located then not (is_local (operand_of i 0)) else true

-- the condition of a fork is 1, and the number of threads isn't asked for
abbrev pub has_fork_clauses : Inst → Bool
has_fork_clauses i = if is_call_of Parallel i then (is_constant 1 (operand_of i 2) && is_constant (2 ^ 32 - 1) (operand_of i 3)) else true

-- a static schedule, in chunks or not
abbrev pub has_schedule : Inst → Bool
has_schedule i = if is_call_of ForStaticInit i then (if is_constant 33 (operand_of i 2) then true else is_constant 34 (operand_of i 2)) else true

abbrev pub of_clauses : Inst → List Refusal
of_clauses i = rule ClauseArgument (has_location i && has_fork_clauses i && has_schedule i) i.line

abbrev pub clause_refusals : Module → List Refusal
clause_refusals m = flat_map of_clauses (insts_in m)
