-- Operands as words, and words as others (LLVM Language Reference, "Constants", "Conversion Operations", "getelementptr", "atomicrmw").
use Rattle.std.specs.Prelude.{ℕ, ◌-◌, ◌%◌, ◌^◌, ℤ, pos, ◌+ℤ◌, ◌-ℤ◌, int_lt, nat_lt, bit_and, bit_or, bit_xor, List, [], ◌∷◌, Bool, true, false, ◌&&◌, Option, Some, None, Result, Ok, Err, if◌then◌else◌}
use Rattle.std.specs.Int.{int_wrap, w64}
use Rattle.ir_core.specs.declared.types.Ty.{Ty}
use Rattle.ir_core.specs.declared.types.Ty.TheVariants.{Int as IntTy, Ptr as PtrTy}
use Rattle.ir_core.specs.declared.instructions.Value.{Value}
use Rattle.ir_core.specs.declared.instructions.Value.TheVariants.{Int as IntValue, Null, Local as Register, Global as GlobalValue}
use Rattle.ir_core.specs.declared.instructions.Typed.{Typed}
use Rattle.ir_core.specs.declared.instructions.CastOp.{CastOp}
use Rattle.ir_core.specs.declared.instructions.CastOp.TheVariants.{ZExt, SExt, Trunc, IntToPtr, PtrToInt}
use Rattle.ir_core.specs.declared.instructions.RmwOp.{RmwOp}
use Rattle.ir_core.specs.declared.instructions.RmwOp.TheVariants.{Xchg, Add, Sub, And, Nand, Or, Xor, Max, Min, UMax, UMin}
use Rattle.ir_core.specs.declared.module.Module.{Module}
use Rattle.mem_model.specs.declared.memory.BlockName.TheVariants.{Global as GlobalBlock, Code as CodeBlock}
use Rattle.mem_model.specs.declared.memory.Ptr.{Ptr}
use Rattle.mem_model.specs.declared.memory.Ptr.TheVariants.{Num as Number, At}
use Rattle.mem_model.specs.declared.memory.Word.{Word}
use Rattle.mem_model.specs.declared.memory.Word.TheVariants.{Int, Ptr as Address}
use Rattle.mem_model.specs.declared.memory.Cell.{Cell}
use Rattle.mem_model.specs.declared.memory.Cell.TheVariants.{Int as IntCell, Ptr as PtrCell}
use Rattle.mem_model.specs.declared.step.Trap.{Trap}
use Rattle.mem_model.specs.declared.step.Trap.TheVariants.{Unassigned, Unreachable, NotNumber}
use Rattle.mem_model.specs.Eval.{signed, wrapped}
use Rattle.mem_model.specs.Thread.{Registers}
use Rattle.ir_core.specs.FirstForm.{is_width}
use Rattle.ir_core.specs.Places.{function_place, global_place}

-- ---- types

abbrev pub cell_of : Ty → Cell
cell_of (IntTy width) = IntCell width
cell_of _ = PtrCell

abbrev pub width_of : Ty → ℕ
width_of (IntTy width) = width
width_of _ = 64

-- ---- operands

abbrev pub register_word : Option Word → Result Word Trap
register_word None = Err Unassigned
register_word (Some word) = Ok word

-- the beginning of a global, or of a function's code; a name of neither is in no checked module
abbrev pub address_of : Option ℕ → Option ℕ → Result Word Trap
address_of (Some n) function = Ok (Address (At (GlobalBlock n) (pos 0)))
address_of None (Some n) = Ok (Address (At (CodeBlock n) (pos 0)))
address_of None None = Err Unreachable

abbrev pub value_word : Module → Registers → Value → Result Word Trap
value_word m r (IntValue n) = Ok (Int n)
value_word m r Null = Ok (Address (Number 0))
value_word m r (Register x) = register_word (r x)
value_word m r (GlobalValue x) = address_of (global_place m x) (function_place m x)

-- goes on with what was found, or answers the trap
abbrev pub and_then : {A B : Type 0} → Result A Trap → (A → Result B Trap) → Result B Trap
and_then (Err e) go = Err e
and_then (Ok x) go = go x

-- an integer of the type's width, or an address where the type is a pointer's
abbrev pub is_word_of : Ty → Word → Bool
is_word_of (IntTy width) (Int n) = is_width width && nat_lt n (2 ^ width)
is_word_of PtrTy (Address p) = true
is_word_of _ _ = false

abbrev pub of_type : Ty → Word → Result Word Trap
of_type ty word = if is_word_of ty word then Ok word else Err Unreachable

-- the word of an operand, which is of its type in every checked module
abbrev pub operand : Module → Registers → Ty → Value → Result Word Trap
operand m r ty v = and_then (value_word m r v) (of_type ty)

-- the words of a call's operands, one after another
abbrev pub operand_words : Module → Registers → List Typed → Result (List Word) Trap
operand_words m r [] = Ok []
operand_words m r (v ∷ vs) = and_then (value_word m r v.value) (λ word. and_then (operand_words m r vs) (λ words. Ok (word ∷ words)))

-- ---- conversions, from one width to another; a word of another kind is in no checked module

abbrev pub converted : CastOp → ℕ → ℕ → Word → Result Word Trap
converted ZExt from to (Int n) = Ok (Int n)
converted SExt from to (Int n) = Ok (Int (wrapped to (signed from n)))
converted Trunc from to (Int n) = Ok (Int (n % 2 ^ to))
converted IntToPtr from to (Int n) = Ok (Address (Number n))
converted PtrToInt from to (Address (Number n)) = Ok (Int (n % 2 ^ to))
converted PtrToInt from to (Address (At block offset)) = Err NotNumber
converted _ from to word = Err Unreachable

-- ---- addresses

-- an index, with its sign
abbrev pub index_of : Ty → Word → Result ℤ Trap
index_of ty (Int n) = Ok (signed (width_of ty) n)
index_of ty (Address p) = Err Unreachable

abbrev pub path_of : Module → Registers → List Typed → Result (List ℤ) Trap
path_of m r [] = Ok []
path_of m r (v ∷ vs) = and_then (operand m r v.ty v.value) (λ word. and_then (index_of v.ty word) (λ i. and_then (path_of m r vs) (λ path. Ok (i ∷ path))))

-- an offset further, modulo 2^64; a number stays one
abbrev pub moved : Ptr → ℤ → Ptr
moved (Number n) by_ = Number (wrapped 64 (pos n +ℤ by_))
moved (At block offset) by_ = At block (int_wrap w64 (offset +ℤ by_))

-- ---- atomic changes of a number

abbrev pub greater_signed : ℕ → ℕ → ℕ → ℕ
greater_signed width a b = if int_lt (signed width a) (signed width b) then b else a

abbrev pub lesser_signed : ℕ → ℕ → ℕ → ℕ
lesser_signed width a b = if int_lt (signed width b) (signed width a) then b else a

-- what an operation makes of the number that stands there and its operand
abbrev pub updated : RmwOp → ℕ → ℕ → ℕ → ℕ
updated Xchg width old n = n
updated Add width old n = wrapped width (pos old +ℤ pos n)
updated Sub width old n = wrapped width (pos old -ℤ pos n)
updated And width old n = bit_and old n
updated Nand width old n = 2 ^ width - 1 - bit_and old n
updated Or width old n = bit_or old n
updated Xor width old n = bit_xor old n
updated Max width old n = greater_signed width old n
updated Min width old n = lesser_signed width old n
updated UMax width old n = if nat_lt old n then n else old
updated UMin width old n = if nat_lt n old then n else old
