-- What the rules on shapes ask of an instruction.
use Rattle.std.specs.Prelude.{ℕ, List, [], ◌∷◌, Bool, true, false, Option, Some, None, slice_get, if◌then◌else◌}
use Rattle.std.specs.List.{flat_map, find}
use Rattle.std.specs.Str.{bytes_eq}
use Rattle.ir_core.specs.declared.instructions.Value.{Value}
use Rattle.ir_core.specs.declared.instructions.Value.TheVariants.{Local as LocalValue}
use Rattle.ir_core.specs.declared.instructions.Typed.{Typed}
use Rattle.ir_core.specs.declared.instructions.Kind.{Kind}
use Rattle.ir_core.specs.declared.instructions.Kind.TheVariants.{Call}
use Rattle.ir_core.specs.declared.instructions.Inst.{Inst}
use Rattle.ir_core.specs.declared.module.Module.{Module}
use Rattle.ir_core.specs.declared.module.Function.{Function}
use Rattle.ir_core.specs.declared.module.Block.{Block}
use Rattle.ir_core.specs.declared.refusal.Construct.{Construct}
use Rattle.ir_core.specs.declared.refusal.Refusal.{Refusal}
use Rattle.ir_core.specs.declared.rtl.Rtl.{Rtl}
use Rattle.ir_core.specs.EntryPoints.{entry_name}
use Rattle.ir_core.specs.FirstForm.{is_function, is_number}
use Rattle.ir_core.specs.Places.{Name}
use Rattle.shapes.specs.Insts.{block_insts}

-- a rule that doesn't hold is refused
abbrev pub rule : Construct → Bool → ℕ → List Refusal
rule c holds line = if holds then [] else record { construct = c; line = line } ∷ []

abbrev pub insts_of : Function → List Inst
insts_of f = flat_map block_insts f.blocks

abbrev pub insts_in : Module → List Inst
insts_in m = flat_map insts_of m.functions

abbrev pub first_insts : List Block → List Inst
first_insts [] = []
first_insts (b ∷ bs) = b.insts

-- the first function of a name
abbrev pub function_given : Module → Name → Option Function
function_given m x = find (λ f. bytes_eq f.name x) m.functions

-- ---- calls of entry points

abbrev pub calls : Rtl → Kind → Bool
calls r (Call tail_word ret callee operands) = is_function (entry_name r) callee
calls r _ = false

abbrev pub is_call_of : Rtl → Inst → Bool
is_call_of r i = calls r i.kind

abbrev pub operands_of : Kind → List Typed
operands_of (Call tail_word ret callee operands) = operands
operands_of _ = []

-- the operand of a call at a place, from 0
abbrev pub operand_of : Inst → ℕ → Option Typed
operand_of i place = slice_get (operands_of i.kind) place

abbrev pub is_constant : ℕ → Option Typed → Bool
is_constant n None = false
is_constant n (Some v) = is_number n v.value

abbrev pub is_local_value : Value → Bool
is_local_value (LocalValue x) = true
is_local_value _ = false

abbrev pub is_local : Option Typed → Bool
is_local None = false
is_local (Some v) = is_local_value v.value

-- the register that takes an instruction's result
abbrev pub gives : Name → Inst → Bool
gives x i = is_same x i.result
  where
    is_same : Name → Option Name → Bool
    is_same x None = false
    is_same x (Some y) = bytes_eq y x
