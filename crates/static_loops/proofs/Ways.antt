-- How far steps of a loop go, and how many there are: nothing is lost in the code's numbers.
use Rattle.std.proofs.Common.{◌≡◌, ℕ, ◌^◌, ◌<◌, ◌≤◌, ℤ, pos, negsuc, neg_ℤ, ◌+ℤ◌, ◌-ℤ◌, ◌*ℤ◌, refl, sym, ap, ◌∙◌, arith, of_z, to_z, unsigned_abs, int_div, mul-le-mul, div-le_self, ◌/◌, zero, suc, subst}
use Rattle.std.specs.Int.{w32, w64, w128}
use Rattle.std.specs.Int.RustNames.{FitsSigned}
use Rattle.std.proofs.lemmas.Int.{ints, to_z-of_z, fits_signed_mul, fits_signed_from_abs, unsigned_abs-mul}

-- ---- products

pub way_is : (x y : ℤ) → FitsSigned w128 x → FitsSigned w128 y → unsigned_abs x ≤ 2 ^ 65 → unsigned_abs y ≤ 2 ^ 31 → to_z w128 (of_z w128 (to_z w128 (of_z w128 x) *ℤ to_z w128 (of_z w128 y))) ≡ x *ℤ y
way_is x y fx fy ax ay =
    ap (λ z. to_z w128 (of_z w128 z)) (λ i. to_z-of_z w128 x fx i *ℤ to_z-of_z w128 y fy i)
    ∙ to_z-of_z w128 (x *ℤ y) (fits_signed_mul w128 x y (2 ^ 65) (2 ^ 31) ax ay (omega arith))

pub way_small : (x y : ℤ) → unsigned_abs x ≤ 2 ^ 65 → unsigned_abs y ≤ 2 ^ 31 → unsigned_abs (x *ℤ y) ≤ 2 ^ 96
way_small x y ax ay = omega (arith, unsigned_abs-mul x y, mul-le-mul ax ay)

-- ---- quotients

abs_negated : (n : ℕ) → unsigned_abs (neg_ℤ (pos n)) ≡ n
abs_negated zero = refl
abs_negated (suc n) = refl

pub abs_quotient : (x y : ℤ) → unsigned_abs (int_div x y) ≤ unsigned_abs x
abs_quotient (pos a) (pos b) = div-le_self a b
abs_quotient (pos a) (negsuc b) = rw (abs_negated (a / suc b)) (div-le_self a (suc b))
abs_quotient (negsuc a) (pos b) = rw (abs_negated (suc a / b)) (div-le_self (suc a) b)
abs_quotient (negsuc a) (negsuc b) = div-le_self (suc a) (suc b)

-- ---- numbers kept as they are

pub kept : (x : ℤ) → FitsSigned w32 x → to_z w64 (of_z w64 x) ≡ x
kept x f = to_z-of_z w64 x (record { sfits = omega (arith, f.sfits) })

pub abs_below : (x : ℤ) → FitsSigned w32 x → unsigned_abs x ≤ 2 ^ 31
abs_below x f = let h = f.sfits in omega (arith, ints)

pub sum_fits : (x y : ℤ) → FitsSigned w128 x → FitsSigned w128 y → unsigned_abs x ≤ 2 ^ 98 → unsigned_abs y ≤ 2 ^ 98 → FitsSigned w128 (to_z w128 (of_z w128 x) +ℤ to_z w128 (of_z w128 y))
sum_fits x y fx fy ax ay =
    subst (λ z. FitsSigned w128 (z +ℤ to_z w128 (of_z w128 y))) (sym (to_z-of_z w128 x fx))
    (subst (λ z. FitsSigned w128 (x +ℤ z)) (sym (to_z-of_z w128 y fy)) (fits_signed_from_abs w128 (x +ℤ y) (omega (arith, ints))))

pub sum_is : (x y : ℤ) → FitsSigned w128 x → FitsSigned w128 y → unsigned_abs x ≤ 2 ^ 98 → unsigned_abs y ≤ 2 ^ 98 → to_z w128 (of_z w128 (to_z w128 (of_z w128 x) +ℤ to_z w128 (of_z w128 y))) ≡ x +ℤ y
sum_is x y fx fy ax ay = to_z-of_z w128 _ (sum_fits x y fx fy ax ay) ∙ (λ i. to_z-of_z w128 x fx i +ℤ to_z-of_z w128 y fy i)

pub less_one : (x : ℤ) (n : ℕ) → x ≡ pos n → n ≤ 2 ^ 33 → to_z w128 (of_z w128 (to_z w128 (of_z w128 x) -ℤ pos 1)) ≡ pos n -ℤ pos 1
less_one x n e le =
    let back : to_z w128 (of_z w128 x) ≡ pos n = ap (λ z. to_z w128 (of_z w128 z)) e ∙ to_z-of_z w128 (pos n) (fits_signed_from_abs w128 (pos n) (omega arith)) in
    ap (λ z. to_z w128 (of_z w128 (z -ℤ pos 1))) back ∙ to_z-of_z w128 (pos n -ℤ pos 1) (fits_signed_from_abs w128 (pos n -ℤ pos 1) (omega (arith, ints)))

-- ---- how many turns

-- a difference, as the code has it
pub difference_is : (x y : ℤ) → FitsSigned w32 x → FitsSigned w32 y → to_z w64 (of_z w64 (to_z w64 (of_z w64 x) -ℤ to_z w64 (of_z w64 y))) ≡ x -ℤ y
difference_is x y fx fy =
    let hx = abs_below x fx in
    let hy = abs_below y fy in
    ap (λ z. to_z w64 (of_z w64 z)) (λ i. kept x fx i -ℤ kept y fy i) ∙ to_z-of_z w64 (x -ℤ y) (fits_signed_from_abs w64 (x -ℤ y) (omega (arith, ints)))

pub difference_small : (x y : ℤ) → FitsSigned w32 x → FitsSigned w32 y → unsigned_abs (x -ℤ y) < 2 ^ 32
difference_small x y fx fy = let hx = fx.sfits in let hy = fy.sfits in omega (arith, ints)

module _ (lower upper increment : ℤ) (fl : FitsSigned w32 lower) (fu : FitsSigned w32 upper) (fi : FitsSigned w32 increment) where
  -- the quotient, as the code has it
  pub steps_are : to_z w64 (of_z w64 (int_div (to_z w64 (of_z w64 (to_z w64 (of_z w64 upper) -ℤ to_z w64 (of_z w64 lower)))) (to_z w64 (of_z w64 increment)))) ≡ int_div (upper -ℤ lower) increment
  steps_are =
      let small = difference_small upper lower fu fl in
      ap (λ z. to_z w64 (of_z w64 z)) (λ i. int_div (difference_is upper lower fu fl i) (kept increment fi i))
      ∙ to_z-of_z w64 _ (fits_signed_from_abs w64 (int_div (upper -ℤ lower) increment) (omega (arith, abs_quotient (upper -ℤ lower) increment)))

  pub steps_small : unsigned_abs (int_div (upper -ℤ lower) increment) < 2 ^ 32
  steps_small = let small = difference_small upper lower fu fl in omega (arith, abs_quotient (upper -ℤ lower) increment)
