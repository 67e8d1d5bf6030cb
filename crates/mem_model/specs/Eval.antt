-- Arithmetic on integers of a width (LLVM Language Reference, "Binary Operations", "Bitwise Binary Operations", "icmp").
-- A number of width w is kept as a whole number below 2 ^ w, and read without a sign or with one.
use Rattle.std.specs.Prelude.{ℕ, ◌-◌, ◌%◌, ◌^◌, ℤ, pos, neg_ℤ, ◌+ℤ◌, ◌-ℤ◌, ◌*ℤ◌, int_lt, int_le, int_div, int_rem, unsigned_abs, bit_and, bit_or, bit_xor, Option, Some, None, Result, Ok, Err, Bool, true, false, not, ◌&&◌, ◌==◌, nat_lt, nat_le, if◌then◌else◌}
use Rattle.std.specs.Int.{int_rem_euclid, int_div_euclid}
use Rattle.ir_core.specs.declared.instructions.BinOp.{BinOp}
use Rattle.ir_core.specs.declared.instructions.BinOp.TheVariants.{Add, Sub, Mul, Shl, UDiv, SDiv, LShr, AShr, URem, SRem, And, Or, Xor}
use Rattle.ir_core.specs.declared.instructions.Flags.{Flags}
use Rattle.ir_core.specs.declared.instructions.Pred.{Pred}
use Rattle.ir_core.specs.declared.instructions.Pred.TheVariants.{Eq, Ne, Ugt, Uge, Ult, Ule, Sgt, Sge, Slt, Sle}
use Rattle.mem_model.specs.declared.memory.Word.{Word}
use Rattle.mem_model.specs.declared.memory.Word.TheVariants.{Int, Ptr as Address}
use Rattle.mem_model.specs.declared.step.Trap.{Trap}
use Rattle.mem_model.specs.declared.step.Trap.TheVariants.{Overflow, Division, Shift}
use Rattle.mem_model.specs.Blocks.{same_ptr}

-- ---- numbers of a width

-- the signed number that n stands for
abbrev pub signed : ℕ → ℕ → ℤ
signed width n = if nat_lt n (2 ^ (width - 1)) then pos n else pos n -ℤ pos (2 ^ width)

-- modulo 2 ^ width
abbrev pub wrapped : ℕ → ℤ → ℕ
wrapped width z = unsigned_abs (int_rem_euclid z (pos (2 ^ width)))

abbrev pub fits_unsigned : ℕ → ℤ → Bool
fits_unsigned width z = int_le (pos 0) z && int_lt z (pos (2 ^ width))

abbrev pub fits_signed : ℕ → ℤ → Bool
fits_signed width z = int_le (neg_ℤ (pos (2 ^ (width - 1)))) z && int_lt z (pos (2 ^ (width - 1)))

-- ---- operations

abbrev pub unless : Bool → Trap → Result ℕ Trap → Result ℕ Trap
unless true trap go = Err trap
unless false trap go = go

-- a sum, a difference, a product or a number shifted to the left, where both are read so; a flag says that it fits without a sign, or with one
abbrev pub checked : Flags → ℕ → ((ℕ → ℤ) → ℤ) → Result ℕ Trap
checked flags width value =
    unless (flags.nuw && not (fits_unsigned width (value pos))) Overflow
    (unless (flags.nsw && not (fits_signed width (value (signed width)))) Overflow (Ok (wrapped width (value pos))))

-- the quotient towards zero; the flag says that nothing is left
abbrev pub quotient : Flags → ℕ → ℤ → ℤ → Result ℕ Trap
quotient flags width x y = unless (flags.exact && not (unsigned_abs (int_rem x y) == 0)) Overflow (Ok (wrapped width (int_div x y)))

-- what is left, with the sign of the dividend
abbrev pub remainder : ℕ → ℤ → ℤ → Result ℕ Trap
remainder width x y = Ok (wrapped width (int_rem x y))

-- no division by 0, and with signs none of which the quotient doesn't fit: the least number by -1
abbrev pub unsigned_division : ℕ → ℕ → (ℤ → ℤ → Result ℕ Trap) → Result ℕ Trap
unsigned_division a b divide = unless (b == 0) Division (divide (pos a) (pos b))

abbrev pub signed_division : ℕ → ℕ → ℕ → (ℤ → ℤ → Result ℕ Trap) → Result ℕ Trap
signed_division width a b divide =
    unless (b == 0) Division (unless (not (fits_signed width (int_div (signed width a) (signed width b)))) Division (divide (signed width a) (signed width b)))

-- a shift is by less than the width
abbrev pub shift : ℕ → ℕ → Result ℕ Trap → Result ℕ Trap
shift width b go = unless (nat_le width b) Shift go

-- a number shifted to the right, rounded down; the flag says that no 1 bit goes out
abbrev pub shifted_right : Flags → ℕ → ℕ → ℤ → ℕ → Result ℕ Trap
shifted_right flags width a x b = unless (flags.exact && not (a % 2 ^ b == 0)) Overflow (Ok (wrapped width (int_div_euclid x (pos (2 ^ b)))))

-- the value, or the trap
abbrev pub Eval : BinOp → Flags → ℕ → ℕ → ℕ → Result ℕ Trap
Eval Add flags width a b = checked flags width (λ read. read a +ℤ read b)
Eval Sub flags width a b = checked flags width (λ read. read a -ℤ read b)
Eval Mul flags width a b = checked flags width (λ read. read a *ℤ read b)
Eval Shl flags width a b = shift width b (checked flags width (λ read. read a *ℤ pos (2 ^ b)))
Eval UDiv flags width a b = unsigned_division a b (quotient flags width)
Eval SDiv flags width a b = signed_division width a b (quotient flags width)
Eval URem flags width a b = unsigned_division a b (remainder width)
Eval SRem flags width a b = signed_division width a b (remainder width)
Eval LShr flags width a b = shift width b (shifted_right flags width a (pos a) b)
Eval AShr flags width a b = shift width b (shifted_right flags width a (signed width a) b)
Eval And flags width a b = Ok (bit_and a b)
Eval Or flags width a b = Ok (bit_or a b)
Eval Xor flags width a b = Ok (bit_xor a b)

-- ---- comparisons

abbrev pub truth : Bool → ℕ
truth true = 1
truth false = 0

-- equal integers, or the same pointer
abbrev pub same_word : Word → Word → Bool
same_word (Int a) (Int b) = a == b
same_word (Address p) (Address q) = same_ptr p q
same_word _ _ = false

-- numbers of a width in the order that the predicate names
abbrev pub is_ordered : Pred → ℕ → ℕ → ℕ → Bool
is_ordered Eq width a b = a == b
is_ordered Ne width a b = not (a == b)
is_ordered Ugt width a b = nat_lt b a
is_ordered Uge width a b = nat_le b a
is_ordered Ult width a b = nat_lt a b
is_ordered Ule width a b = nat_le a b
is_ordered Sgt width a b = int_lt (signed width b) (signed width a)
is_ordered Sge width a b = int_le (signed width b) (signed width a)
is_ordered Slt width a b = int_lt (signed width a) (signed width b)
is_ordered Sle width a b = int_le (signed width a) (signed width b)

-- none for an order of pointers or of words of different kinds, which no checked module has; words of different kinds are never equal
abbrev pub compared : Pred → ℕ → Word → Word → Option ℕ
compared Eq width a b = Some (truth (same_word a b))
compared Ne width a b = Some (truth (not (same_word a b)))
compared pred width (Int a) (Int b) = Some (truth (is_ordered pred width a b))
compared pred width a b = None
