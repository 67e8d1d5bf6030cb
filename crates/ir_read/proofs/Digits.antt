-- Which digits stand for 0.
use Rattle.std.proofs.Common.{◌≡◌, ◌≢◌, ℕ, zero, suc, ◌+◌, ◌-◌, ◌*◌, ◌≤◌, ◌<◌, List, [], ◌∷◌, drop, Bool, true, false, cond, refl, sym, ap, ◌∙◌, subst, arith}
use Rattle.std.specs.Prelude.{◌==◌, nat_lt}
use Rattle.std.proofs.lemmas.Bool.Decides.{Decides-eqb, nat_tests}
use Rattle.ir_read.specs.Probes.{Tells, has_digit_above_zero}
use Rattle.ir_core.specs.Numbers.{value_from, value_of, magnitude}

grows : (n : ℕ) (cs : List ℕ) → n ≤ value_from n cs
grows n [] = omega arith
grows n (c ∷ cs) = let h = grows (10 * n + (c - 48)) cs in omega arith

low_digit : (c : ℕ) (cs : List ℕ) → c ≤ 48 → value_of (c ∷ cs) ≡ value_of cs
low_digit c cs h = let z : 10 * 0 + (c - 48) ≡ 0 = omega arith in ap (λ n. value_from n cs) z

high_digit : (c : ℕ) (cs : List ℕ) → 48 < c → value_of (c ∷ cs) ≢ 0
high_digit c cs h e = let g = grows (10 * 0 + (c - 48)) cs in absurd (omega arith)

magnitude_is : (cs : List ℕ) → magnitude cs ≡ value_of cs
magnitude_is [] = refl
magnitude_is (c ∷ cs) = by_sign (c == 45) refl
  where
    by_sign : (b : Bool) → (c == 45) ≡ b → cond b (value_of cs) (value_of (c ∷ cs)) ≡ value_of (c ∷ cs)
    by_sign true e = let h = (Decides-eqb c 45).0 e in sym (low_digit c cs (omega arith))
    by_sign false e = refl

value_tells : (cs : List ℕ) → Tells (value_of cs ≢ 0) (has_digit_above_zero cs)
value_tells [] = λ h. h refl
value_tells (c ∷ cs) = by_digit (value_tells cs) (nat_lt 48 c) refl
  where
    by_digit : Tells (value_of cs ≢ 0) (has_digit_above_zero cs) → (b : Bool) → nat_lt 48 c ≡ b → Tells (value_of (c ∷ cs) ≢ 0) (cond b true (has_digit_above_zero cs))
    by_digit more true e = high_digit c cs (grind (arith, nat_tests))
    by_digit more false e =
        let low : c ≤ 48 = grind (arith, nat_tests) in
        subst (λ n. Tells (n ≢ 0) (has_digit_above_zero cs)) (sym (low_digit c cs low)) more

pub tells_nonzero : (cs : List ℕ) → Tells (magnitude cs ≢ 0) (has_digit_above_zero cs)
tells_nonzero cs = subst (λ n. Tells (n ≢ 0) (has_digit_above_zero cs)) (sym (magnitude_is cs)) (value_tells cs)
