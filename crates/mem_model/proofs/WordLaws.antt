-- The bytes of a word hold that word.
use Rattle.std.proofs.Common.{◌≡◌, ℕ, zero, suc, ◌+◌, ◌*◌, ◌/◌, ◌%◌, ◌^◌, ◌<◌, length, true, ◌&&◌, Some, Ok, Err, refl, sym, ap, ◌∙◌, subst, arith, ℤ}
use Rattle.std.specs.Prelude.{if◌then◌else◌, ◌==◌, option_map}
use Rattle.std.specs.Ordering.{int_eq}
use Rattle.std.proofs.Math.Nat.{pow-suc, div-lt_iff_lt-mul, mod-add-div, mod-eq_of_lt, pow-le-pow_right, lt_of_lt_of_le}
use Rattle.std.proofs.lemmas.Nat.{pow-add}
use Rattle.std.proofs.lemmas.Bool.{eq-eqb}
use Rattle.std.proofs.lemmas.Cmp.{int_eq_equiv, eq_by_cmp_equiv}
use Rattle.mem_model.specs.declared.memory.BlockName.{BlockName}
use Rattle.mem_model.specs.declared.memory.Ptr.{Ptr}
use Rattle.mem_model.specs.declared.memory.Ptr.TheVariants.{Num as Number, At}
use Rattle.mem_model.specs.declared.memory.Word.{Word}
use Rattle.mem_model.specs.declared.memory.Word.TheVariants.{Int, Ptr as Address}
use Rattle.mem_model.specs.declared.memory.Cell.{Cell}
use Rattle.mem_model.specs.declared.memory.Cell.TheVariants.{Int as IntCell, Ptr as PtrCell}
use Rattle.mem_model.specs.declared.step.Trap.TheVariants.{NotNumber}
use Rattle.mem_model.specs.Blocks.{same_ptr}
use Rattle.mem_model.specs.Words.{cell_size, number_bytes, parts_from, pointer_bytes, word_bytes, number_in, are_parts, integer_word, pointer_word, word_in}
use Rattle.mem_model.specs.MemoryLaws.{Holds, WordComesBack}
use Rattle.mem_model.proofs.Orders.{block_total}

-- ---- numbers

quotient_below : (n size : ℕ) → n < 256 ^ suc size → n / 256 < 256 ^ size
quotient_below n size below = (div-lt_iff_lt-mul {k = 256} {x = n} {y = 256 ^ size} (omega arith)).1 (subst (λ b. n < b) (pow-suc 256 size) below)

number_back : (size n : ℕ) → n < 256 ^ size → number_in (number_bytes size n) ≡ Some n
number_back zero n below = ap (λ (x : ℕ). Some x) (let e : zero ≡ n = omega arith in e)
number_back (suc size) n below =
    ap (option_map (λ (rest : ℕ). n % 256 + 256 * rest)) (number_back size (n / 256) (quotient_below n size below)) ∙ ap (λ (x : ℕ). Some x) (mod-add-div n 256)

bytes_power : (size : ℕ) → 2 ^ (8 * size) ≡ 256 ^ size
bytes_power zero = refl
bytes_power (suc size) = ap (λ k. 2 ^ k) (let e : 8 * suc size ≡ 8 * size + 8 = omega arith in e) ∙ pow-add 2 (8 * size) 8 ∙ ap (λ k. k * 256) (bytes_power size) ∙ sym (pow-suc 256 size)

-- the bytes of a cell have room for its numbers
room : (width n : ℕ) → n < 2 ^ width → n < 256 ^ ((width + 7) / 8)
room width n below =
    subst (λ b. n < b) (bytes_power ((width + 7) / 8)) (lt_of_lt_of_le below (pow-le-pow_right {n = 2} (omega arith) {i = width} {j = 8 * ((width + 7) / 8)} (omega arith)))

integer_back : (width n : ℕ) → n < 2 ^ width → word_in (IntCell width) (number_bytes ((width + 7) / 8) n) ≡ Ok (Int n)
integer_back width n below = ap (integer_word width) (number_back ((width + 7) / 8) n (room width n below)) ∙ ap (λ k. Ok (Int k)) (mod-eq_of_lt below)

-- ---- addresses

pub same_self : (block : BlockName) (offset : ℤ) → same_ptr (At block offset) (At block offset) ≡ true
same_self block offset = ap (λ t. t && int_eq offset offset) ((eq_by_cmp_equiv block_total).refl block) ∙ int_eq_equiv.refl offset

parts_are : (p : Ptr) → same_ptr p p ≡ true → (count k : ℕ) → are_parts p k (parts_from count k p) ≡ true
parts_are p same zero k = refl
parts_are p same (suc count) k =
    ap (λ t. t && (k == k) && are_parts p (k + 1) (parts_from count (k + 1) p)) same ∙ ap (λ t. true && t && are_parts p (k + 1) (parts_from count (k + 1) p)) (eq-eqb k k refl) ∙ parts_are p same count (k + 1)

address_back : (block : BlockName) (offset : ℤ) → word_in PtrCell (pointer_bytes (At block offset)) ≡ Ok (Address (At block offset))
address_back block offset = ap (λ t. if t then Ok (Address (At block offset)) else Err NotNumber) (parts_are (At block offset) (same_self block offset) 8 0)

pub word_back : WordComesBack
word_back (IntCell width) (Int n) holds = integer_back width n holds
word_back (IntCell width) (Address p) holds = absurd holds
word_back PtrCell (Int n) holds = absurd holds
word_back PtrCell (Address (Number n)) holds = ap (pointer_word (number_bytes 8 n)) (number_back 8 n holds)
word_back PtrCell (Address (At block offset)) holds = address_back block offset

-- ---- how many bytes

pub number_length : (size n : ℕ) → length (number_bytes size n) ≡ size
number_length zero n = refl
number_length (suc size) n = ap suc (number_length size (n / 256))

pub word_length : (cell : Cell) (word : Word) → Holds cell word → length (word_bytes cell word) ≡ cell_size cell
word_length (IntCell width) (Int n) holds = number_length ((width + 7) / 8) n
word_length (IntCell width) (Address p) holds = absurd holds
word_length PtrCell (Int n) holds = absurd holds
word_length PtrCell (Address (Number n)) holds = number_length 8 n
word_length PtrCell (Address (At block offset)) holds = refl
