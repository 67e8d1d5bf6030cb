-- Numbers in digits, and what they are kept as.
use Rattle.std.proofs.Common.{mod-eq_of_lt, ◌≡◌, ℕ, zero, suc, ◌+◌, ◌-◌, ◌*◌, ◌/◌, ◌%◌, ◌^◌, ◌≤◌, ◌<◌, List, [], ◌∷◌, ◌++◌, Bool, true, false, refl, sym, ap, ◌∙◌, arith, decimal, ◌==◌}
use Rattle.std.proofs.lemmas.Bool.{lt-ltb, le-leb, eqb-true}
use Rattle.std.proofs.lemmas.Fmt.{decimal_by_steps}
use Rattle.ir_core.specs.declared.types.Ty.TheVariants.{Int as IntTy}
use Rattle.ir_core.specs.Bytes.{digit_byte, every}
use Rattle.ir_core.proofs.Runs.{if_true, if_false, every_first, every_more, every_append}
use Rattle.ir_core.specs.Numbers.{value_from, value_of, is_negative, magnitude, fits, modulo, is_number_in_range, kept_at}

-- ---- the digits of a number, and what they spell

-- digits read one after another
value_append : (n : ℕ) (xs ys : List ℕ) → value_from n (xs ++ ys) ≡ value_from (value_from n xs) ys
value_append n [] ys = refl
value_append n (x ∷ xs) ys = value_append (10 * n + (x - 48)) xs ys

-- the printed digits of a number spell it
pub decimal_value : (n : ℕ) → n < 2 ^ 64 → value_of (decimal n) ≡ n
decimal_value n h = decimal_by_steps (λ n ds. value_of ds ≡ n)
    (λ n digit. let e : 10 * 0 + (48 + n - 48) ≡ n = omega arith in e)
    (λ n ds big below. value_append 0 ds ((48 + n % 10) ∷ []) ∙ ap (λ k. 10 * k + (48 + n % 10 - 48)) below ∙ (let e : 10 * (n / 10) + (48 + n % 10 - 48) ≡ n = omega arith in e))
    n h

-- a digit is one byte
digit_of : (n : ℕ) → n < 10 → digit_byte (48 + n) ≡ true
digit_of zero h = refl
digit_of (suc zero) h = refl
digit_of (suc (suc zero)) h = refl
digit_of (suc (suc (suc zero))) h = refl
digit_of (suc (suc (suc (suc zero)))) h = refl
digit_of (suc (suc (suc (suc (suc zero))))) h = refl
digit_of (suc (suc (suc (suc (suc (suc zero)))))) h = refl
digit_of (suc (suc (suc (suc (suc (suc (suc zero))))))) h = refl
digit_of (suc (suc (suc (suc (suc (suc (suc (suc zero)))))))) h = refl
digit_of (suc (suc (suc (suc (suc (suc (suc (suc (suc zero))))))))) h = refl
digit_of (suc (suc (suc (suc (suc (suc (suc (suc (suc (suc n)))))))))) h = absurd (omega arith)

-- a number is printed in digits
pub decimal_digits : (n : ℕ) → n < 2 ^ 64 → every digit_byte (decimal n) ≡ true
decimal_digits n h = decimal_by_steps (λ n ds. every digit_byte ds ≡ true)
    (λ n digit. every_more digit_byte (48 + n) [] (digit_of n digit) refl)
    (λ n ds big below. every_append digit_byte ds ((48 + n % 10) ∷ []) below (every_more digit_byte (48 + n % 10) [] (digit_of (n % 10) (omega arith)) refl))
    n h

-- digits do not begin with a -
pub no_minus : (ds : List ℕ) → every digit_byte ds ≡ true → is_negative ds ≡ false
no_minus [] h = refl
no_minus (d ∷ ds) h = by (d == 45) refl
  where
    by : (b : Bool) → (d == 45) ≡ b → b ≡ false
    by false e = refl
    by true e = let f : true ≡ false = sym (every_first digit_byte d ds h).0 ∙ ap digit_byte (eqb-true d 45 e) in cc

-- ---- what they are kept as

pub small_mod : (n m : ℕ) → n < m → n % m ≡ n
small_mod n m h = mod-eq_of_lt h

-- a number without a sign
pub plain_fits : (n : ℕ) → n < 2 ^ 64 → (is_negative (decimal n) ≡ false) × (magnitude (decimal n) ≡ n)
plain_fits n h =
    let e = no_minus (decimal n) (decimal_digits n h) in
    (e, if_false _ _ _ e ∙ decimal_value n h)

pub plain_in_range : (n : ℕ) → n < 2 ^ 64 → is_number_in_range (decimal n) ≡ true
plain_in_range n h = let e = plain_fits n h in ap (λ b. fits 64 b (magnitude (decimal n))) e.0 ∙ ap (fits 64 false) e.1 ∙ lt-ltb n (2 ^ 64) h

-- it is kept as it was
pub plain_kept : (width n : ℕ) → n < 2 ^ 64 → n < 2 ^ width → kept_at (IntTy width) (decimal n) ≡ n
plain_kept width n h l =
    let e = plain_fits n h in
    let f : fits width (is_negative (decimal n)) (magnitude (decimal n)) ≡ true = ap (λ b. fits width b (magnitude (decimal n))) e.0 ∙ ap (fits width false) e.1 ∙ lt-ltb n (2 ^ width) l in
    if_true _ _ _ f ∙ ap (λ b. modulo width b (magnitude (decimal n))) e.0 ∙ ap (modulo width false) e.1 ∙ small_mod n (2 ^ width) l

-- a number behind a -
minus_magnitude : (k : ℕ) → k < 2 ^ 64 → magnitude (45 ∷ decimal k) ≡ k
minus_magnitude k h = decimal_value k h

-- it is in the range of operands, and is kept as its distance from the width's end
pub minus_in_range : (k : ℕ) → k ≤ 2 ^ 63 → is_number_in_range (45 ∷ decimal k) ≡ true
minus_in_range k h = ap (fits 64 true) (minus_magnitude k (omega arith)) ∙ le-leb k (2 ^ 63) h

pub minus_kept : (width k : ℕ) → k < 2 ^ 64 → k ≤ 2 ^ (width - 1) → 0 < k → 0 < 2 ^ width → kept_at (IntTy width) (45 ∷ decimal k) ≡ 2 ^ width - k
minus_kept width k h l s p =
    let e = minus_magnitude k h in
    let f : fits width true (magnitude (45 ∷ decimal k)) ≡ true = ap (fits width true) e ∙ le-leb k (2 ^ (width - 1)) l in
    if_true _ _ _ f ∙ ap (modulo width true) e ∙ small_mod (2 ^ width - k) (2 ^ width) (omega arith)
