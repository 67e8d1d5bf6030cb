-- Names among those of a table.
use Rattle.std.proofs.Common.{◌≡◌, ℕ, suc, ◌+◌, ◌-◌, ◌<◌, length, arith, Bool, true, false, List, [], ◌∷◌, Some, refl, sym, ap, ◌∙◌, if◌then◌else◌, is_some}
use Rattle.std.specs.Str.{bytes_eq}
use Rattle.std.proofs.lemmas.Slice.Eq.{bytes_eq-Decides}
use Rattle.ir_core.specs.Places.{Name, place_from, place_in}
use Rattle.ir_core.specs.Wrappers.{is_in}
use Rattle.state_machine.specs.Fresh.{numbered, least_free}

swapped : (x y : Name) → bytes_eq y x ≡ bytes_eq x y
swapped x y = by (bytes_eq y x) (bytes_eq x y) refl refl
  where
    by : (a b : Bool) → bytes_eq y x ≡ a → bytes_eq x y ≡ b → a ≡ b
    by true b p q = sym ((bytes_eq-Decides x y).1 (sym ((bytes_eq-Decides y x).0 p))) ∙ q
    by false true p q = sym p ∙ (bytes_eq-Decides y x).1 (sym ((bytes_eq-Decides x y).0 q))
    by false false p q = refl

-- a name has a place exactly where it is among them
placed : (n : ℕ) (names : List Name) (x : Name) → is_some (place_from n names x) ≡ is_in names x
placed n [] x = refl
placed n (y ∷ ys) x = by (bytes_eq y x) (placed (n + 1) ys x) ∙ ap (λ b. if b then true else is_in ys x) (swapped x y)
  where
    by : (b : Bool) → is_some (place_from (n + 1) ys x) ≡ is_in ys x → is_some (if b then Some n else place_from (n + 1) ys x) ≡ (if b then true else is_in ys x)
    by true more = refl
    by false more = more

pub is_placed : (names : List Name) (x : Name) → is_some (place_in names x) ≡ is_in names x
is_placed = placed 0

-- ---- the least number with which a stem is free

module _ (names : List Name) (stem : Name) where
  split : (n : ℕ) → n < length names → length names - n ≡ suc (length names - (n + 1))
  split n low = omega arith

  next : (n : ℕ) → suc (n + 1) ≡ n + 1 + 1
  next n = omega arith

  abbrev tries : ℕ → Bool → ℕ
  tries n b = if b then least_free names stem (suc (n + 1)) (length names - (n + 1)) else (n + 1)

  pub taken_on : (n : ℕ) → n < length names → is_in names (numbered stem (n + 1)) ≡ true → least_free names stem (n + 1) (length names - n) ≡ least_free names stem (n + 1 + 1) (length names - (n + 1))
  taken_on n low e = ap (least_free names stem (n + 1)) (split n low) ∙ ap (tries n) e ∙ ap (λ k. least_free names stem k (length names - (n + 1))) (next n)

  pub free_at : (n : ℕ) → n < length names → is_in names (numbered stem (n + 1)) ≡ false → least_free names stem (n + 1) (length names - n) ≡ n + 1
  free_at n low e = ap (least_free names stem (n + 1)) (split n low) ∙ ap (tries n) e
