-- Numbers of a width, for the arithmetic on them.
use Rattle.std.proofs.Common.{◌≡◌, ℕ, zero, suc, ◌+◌, ◌-◌, ◌*◌, ◌%◌, ◌^◌, ◌<◌, ◌≤◌, ℤ, pos, negsuc, ◌-ℤ◌, ◌*ℤ◌, Bool, true, false, refl, sym, ap, ◌∙◌, arith, rules, of_z, to_z, unsigned_abs, leb, ltb, ◌/◌, neg_ℤ, int_div, int_rem, div-le_self, ◌≢◌, ◌⊎◌, inl, inr, ◌&&◌, not, ◌==◌, Ok}
use Rattle.std.specs.Int.{w64, w128}
use Rattle.std.specs.Int.RustNames.{FitsSigned}
use Rattle.std.specs.declared.result.Result.{Result}
use Rattle.std.proofs.lemmas.Bool.Decides.{nat_tests}
use Rattle.std.proofs.lemmas.Nat.{pow-add, pow_pos}
use Rattle.std.proofs.lemmas.Int.{ints, int_rem_euclid_is, to_z-of_z, fits_signed_mul, fits_signed_from_abs, quot_is, rem_is}
use Rattle.ir_core.specs.declared.instructions.Flags.{Flags}
use Rattle.ir_core.specs.FirstForm.{is_width}
use Rattle.mem_model.specs.declared.step.Trap.{Trap}
use Rattle.mem_model.specs.Eval.{wrapped, fits_unsigned, fits_signed, shift, unless, quotient}

pub width_bounds : (w : ℕ) → is_width w ≡ true → (0 < w) × (w ≤ 64)
width_bounds w h = grind (arith, nat_tests)

-- the bits of a signed number of 128 bits, cut to a width
bits_cut : (w : ℕ) (z : ℤ) → w ≤ 64 → FitsSigned w128 z → of_z w128 z % 2 ^ w ≡ wrapped w z
bits_cut w (pos n) le fits = refl
bits_cut w (negsuc n) le fits =
    let all : (128 - w) + w ≡ 128 = omega arith in
    let whole : 2 ^ (128 - w) * 2 ^ w ≡ 2 ^ 128 = sym (pow-add 2 (128 - w) w) ∙ ap (λ k. 2 ^ k) all in
    sym (ap unsigned_abs (int_rem_euclid_is (negsuc n) (pos (2 ^ w)) (2 ^ w) (2 ^ (128 - w)) (2 ^ 128 - suc n) (pow_pos w) refl (omega (arith, ints))))

pub wrapped_bits : (w : ℕ) (z : ℤ) → w ≤ 64 → FitsSigned w128 z → of_z w128 (to_z w128 (of_z w128 z)) % 2 ^ w ≡ wrapped w z
wrapped_bits w z le fits = ap (λ y. of_z w128 y % 2 ^ w) (to_z-of_z w128 z fits) ∙ bits_cut w z le fits

-- ---- differences, products and shifts

pub wrapped_difference : (w a b : ℕ) → b < 2 ^ w → wrapped w (pos a -ℤ pos b) ≡ (a + 2 ^ w - b) % 2 ^ w
wrapped_difference w a b lt = ap unsigned_abs (int_rem_euclid_is (pos a -ℤ pos b) (pos (2 ^ w)) (2 ^ w) 1 (a + 2 ^ w - b) (pow_pos w) refl (omega (arith, ints)))

pub fits_difference : (w a b : ℕ) → a < 2 ^ w → fits_unsigned w (pos a -ℤ pos b) ≡ leb b a
fits_difference w a b lt = grind (arith, nat_tests, ints)

pub fits_number : (w n : ℕ) → fits_unsigned w (pos n) ≡ ltb n (2 ^ w)
fits_number w n = grind (arith, nat_tests)

pub product_back : (x y : ℤ) → FitsSigned w64 x → unsigned_abs y ≤ 2 ^ 63 → FitsSigned w128 y → to_z w128 (of_z w128 (to_z w128 (of_z w128 x) *ℤ to_z w128 (of_z w128 y))) ≡ x *ℤ y
product_back x y fx fy gy =
    let gx : FitsSigned w128 x = search rules in
    let ax : unsigned_abs x ≤ 2 ^ 63 = omega (arith, ints) in
    ap (λ z. to_z w128 (of_z w128 z)) (λ i. to_z-of_z w128 x gx i *ℤ to_z-of_z w128 y gy i)
    ∙ to_z-of_z w128 (x *ℤ y) (fits_signed_mul w128 x y (2 ^ 63) (2 ^ 63) ax fy (omega arith))

pub shift_goes : (w b : ℕ) (go : Result ℕ Trap) → b < w → shift w b go ≡ go
shift_goes w b go lt = grind (arith, nat_tests)

-- ---- quotients

abs_negated : (n : ℕ) → unsigned_abs (neg_ℤ (pos n)) ≡ n
abs_negated zero = refl
abs_negated (suc n) = refl

abs_quotient : (x y : ℤ) → unsigned_abs (int_div x y) ≤ unsigned_abs x
abs_quotient (pos a) (pos b) = shrinks a b
  where
    shrinks : (a b : ℕ) → a / b ≤ a
    shrinks a b = omega arith
abs_quotient (pos a) (negsuc b) = rw (abs_negated (a / suc b)) (omega arith)
abs_quotient (negsuc a) (pos b) = rw (abs_negated (suc a / b)) (div-le_self (suc a) b)
abs_quotient (negsuc a) (negsuc b) = omega arith

pub quotient_back : (x y : ℤ) → FitsSigned w128 x → FitsSigned w128 y → unsigned_abs x ≤ 2 ^ 64 → to_z w128 (of_z w128 (int_div (to_z w128 (of_z w128 x)) (to_z w128 (of_z w128 y)))) ≡ int_div x y
quotient_back x y fx fy small = quot_is w128 x y fx fy (fits_signed_from_abs w128 (int_div x y) (omega (arith, abs_quotient x y)))

pub unless_passes : (fails : Bool) (trap : Trap) (go : Result ℕ Trap) → fails ≡ false → unless fails trap go ≡ go
unless_passes fails trap go e = ap (λ b. unless b trap go) e

none_left : (exact : Bool) (n : ℕ) → n ≡ 0 → (exact && not (n == 0)) ≡ false
none_left true n e = grind (arith, nat_tests)
none_left false n e = refl

not_asked : (exact left : Bool) → exact ≡ false → (exact && left) ≡ false
not_asked exact left e = ap (λ b. b && left) e

nothing_lost : (exact : Bool) (x y : ℤ) → FitsSigned w128 x → FitsSigned w128 y → ((exact ≡ true) × (of_z w128 (int_rem (to_z w128 (of_z w128 x)) (to_z w128 (of_z w128 y))) ≡ 0)) ⊎ (exact ≡ false) → (exact && not (unsigned_abs (int_rem x y) == 0)) ≡ false
nothing_lost exact x y fx fy (inl h) = none_left exact (unsigned_abs (int_rem x y)) (ap unsigned_abs (sym (rem_is w128 x y fx fy) ∙ ap (to_z w128) h.1))
nothing_lost exact x y fx fy (inr h) = not_asked exact _ h

pub quotient_goes : (flags : Flags) (w : ℕ) (x y : ℤ) (r : ℕ) → FitsSigned w128 x → FitsSigned w128 y → r ≡ wrapped w (int_div x y) → ((flags.exact ≡ true) × (of_z w128 (int_rem (to_z w128 (of_z w128 x)) (to_z w128 (of_z w128 y))) ≡ 0)) ⊎ (flags.exact ≡ false) → ◌≡◌ {A = Result ℕ Trap} (Ok r) (quotient flags w x y)
quotient_goes flags w x y r fx fy e h = ap (λ n. Ok n) e ∙ sym (unless_passes _ _ _ (nothing_lost flags.exact x y fx fy h))

-- ---- division with signs

pub divisible_is : (w b : ℕ) (z q : ℤ) (r : Bool) → b ≢ 0 → r ≡ fits_signed w z → z ≡ q → r ≡ (not (b == 0) && fits_signed w q)
divisible_is w b z q r some e f = e ∙ ap (fits_signed w) f ∙ sym (ap (λ t. not t && fits_signed w q) (not_zero b some))
  where
    not_zero : (b : ℕ) → b ≢ 0 → (b == 0) ≡ false
    not_zero b some = grind (arith, nat_tests)
