-- What is refused of one instruction at the end of user code.
use Rattle.std.specs.Prelude.{ℕ, zero, suc, List, [], ◌++◌, Bool, true, Option, None, slice_get, ◌&&◌, if◌then◌else◌}
use Rattle.ir_core.specs.declared.instructions.Inst.{Inst}
use Rattle.ir_core.specs.declared.refusal.Refusal.{Refusal}
use Rattle.ir_core.specs.declared.rtl.Rtl.TheVariants.{TargetDeinit}
use Rattle.shapes.specs.Facts.{is_call_of, operand_of, is_constant}
use Rattle.shapes.specs.KernelShape.{shaped, returns, is_deinit, returns_next}

-- the instruction before a place
abbrev pub before_place : List Inst → ℕ → Option Inst
before_place insts zero = None
before_place insts (suc n) = slice_get insts n

abbrev pub of_return : Bool → Option Inst → Inst → List Refusal
of_return free before i = if returns i.kind then shaped (if free then true else is_deinit before) i.line else []

abbrev pub of_deinit : Inst → List Inst → List Refusal
of_deinit i behind = if is_call_of TargetDeinit i then shaped (is_constant 1 (operand_of i 1) && returns_next behind) i.line else []

abbrev pub of_end : Bool → Option Inst → Inst → List Inst → List Refusal
of_end free before i behind = of_return free before i ++ of_deinit i behind
