-- Words that are read from bytes and written to them.
use Rattle.std.proofs.Common.{◌≡◌, ℕ, zero, suc, ◌+◌, ◌-◌, ◌*◌, ◌/◌, ◌%◌, ◌^◌, ◌<◌, ◌≤◌, List, [], ◌∷◌, ◌++◌, length, take, drop, get_or, set, length-set, append_assoc, Option, Some, None, refl, sym, ap, ◌∙◌, arith}
use Rattle.std.specs.Prelude.{option_map}
use Rattle.std.proofs.Math.Nat.{pow-suc, pow-le-pow_right}
use Rattle.std.proofs.lemmas.List.{drop_more, take_more_set}
use Rattle.mem_model.specs.declared.memory.Ptr.{Ptr}
use Rattle.mem_model.specs.declared.memory.Byte.{Byte}
use Rattle.mem_model.specs.declared.memory.Byte.TheVariants.{Num, Part}
use Rattle.mem_model.specs.Words.{number_in, number_bytes, parts_from}
use Rattle.mem_model.specs.Memory.{shown_byte}

-- ---- the number that bytes spell, read from the last byte to the first

pub one_more : (len i : ℕ) → 0 < i → i ≤ len → 256 ^ (len - (i - 1)) ≡ 256 ^ (len - i) * 256
one_more len i some le = ap (λ k. 256 ^ k) (let e : len - (i - 1) ≡ suc (len - i) = omega arith in e) ∙ pow-suc 256 (len - i)

pub seven_bytes : (len i : ℕ) → 0 < i → i ≤ len → len ≤ 8 → 256 ^ (len - i) ≤ 256 ^ 7
seven_bytes len i some le most = pow-le-pow_right {n = 256} (omega arith) {i = len - i} {j = 7} (omega arith)

pub is_number : (byte : Byte) (n : ℕ) → shown_byte byte ≡ Some n → byte ≡ Num n
is_number (Num m) n e = ap (λ (k : ℕ). Num k) (let q : m ≡ n = cc in q)
is_number (Part p k) n e = absurd (let f : ⊥ = cc in f)

-- one byte more, before those that are read
pub spells_more : (bytes : List Byte) (i low number : ℕ) (d : Byte) → 0 < i → i ≤ length bytes → shown_byte (get_or bytes (i - 1) d) ≡ Some low → number_in (drop i bytes) ≡ Some number → number_in (drop (i - 1) bytes) ≡ Some (low + 256 * number)
spells_more bytes i low number d some le is spells =
    ap number_in (drop_more bytes (i - 1) d (omega arith)) ∙ ap (λ b. number_in (b ∷ drop (i - 1 + 1) bytes)) (is_number (get_or bytes (i - 1) d) low is) ∙ ap (λ k. option_map (λ rest. low + 256 * rest) (number_in (drop k bytes))) (let e : i - 1 + 1 ≡ i = omega arith in e) ∙ ap (option_map (λ rest. low + 256 * rest)) spells

pub part_spoils : (bytes : List Byte) (k : ℕ) (d : Byte) → k < length bytes → shown_byte (get_or bytes k d) ≡ None → ◌≡◌ {A = Option ℕ} None (number_in bytes)
part_spoils [] k d lt e = absurd (omega arith)
part_spoils (Part p j ∷ bytes) k d lt e = refl
part_spoils (Num n ∷ bytes) zero d lt e = absurd (let f : ⊥ = cc in f)
part_spoils (Num n ∷ bytes) (suc k) d lt e = ap (option_map (λ rest. n + 256 * rest)) (part_spoils bytes k d (omega arith) e)

-- ---- bytes that are written one after another

written_more : (bytes tail target : List Byte) (i : ℕ) (y : Byte) → i < length bytes → take i bytes ++ (y ∷ tail) ≡ target → take (i + 1) (set bytes i y) ++ tail ≡ target
written_more bytes tail target i y lt e = ap (λ xs. xs ++ tail) (take_more_set bytes i y lt) ∙ append_assoc (take i bytes) (y ∷ []) tail ∙ e

one_less : (bytes : List Byte) (i : ℕ) (y : Byte) → i < length bytes → length bytes - i ≡ suc (length (set bytes i y) - (i + 1))
one_less bytes i y lt = omega (arith, length-set bytes i y)

pub number_more : (bytes : List Byte) (i rest number : ℕ) → i < length bytes → take i bytes ++ number_bytes (length bytes - i) rest ≡ number_bytes (length bytes) number → take (i + 1) (set bytes i (Num (rest % 256))) ++ number_bytes (length (set bytes i (Num (rest % 256))) - (i + 1)) (rest / 256) ≡ number_bytes (length (set bytes i (Num (rest % 256)))) number
number_more bytes i rest number lt e =
    written_more bytes _ _ i (Num (rest % 256)) lt
    (ap (λ k. take i bytes ++ number_bytes k rest) (sym (one_less bytes i (Num (rest % 256)) lt)) ∙ e ∙ ap (λ k. number_bytes k number) (sym (length-set bytes i (Num (rest % 256)))))

pub parts_more : (bytes : List Byte) (i : ℕ) (p : Ptr) → i < length bytes → take i bytes ++ parts_from (length bytes - i) i p ≡ parts_from (length bytes) 0 p → take (i + 1) (set bytes i (Part p i)) ++ parts_from (length (set bytes i (Part p i)) - (i + 1)) (i + 1) p ≡ parts_from (length (set bytes i (Part p i))) 0 p
parts_more bytes i p lt e =
    written_more bytes _ _ i (Part p i) lt
    (ap (λ k. take i bytes ++ parts_from k i p) (sym (one_less bytes i (Part p i) lt)) ∙ e ∙ ap (λ k. parts_from k 0 p) (sym (length-set bytes i (Part p i))))
