-- What stands at a place of a list after a write or a push, and how many marks are missing then.
use Rattle.std.proofs.Common.{◌≡◌, ℕ, zero, suc, ◌+◌, ◌<◌, List, [], ◌∷◌, ◌++◌, length, replicate, Bool, true, false, cond, ◌⊎◌, inl, inr, refl, ap, arith, slice_set, slice_get, Some}
use Rattle.reach.specs.Searches.{IsMarked, IsAmong, unmarked}

-- ---- a write

pub get_set : {A : Type 0} (xs : List A) (n : ℕ) (x : A) → n < length xs → slice_get (slice_set xs n x) n ≡ Some x
get_set [] n x low = absurd (omega arith)
get_set (y ∷ ys) zero x low = refl
get_set (y ∷ ys) (suc n) x low = get_set ys n x (omega arith)

pub get_other : {A : Type 0} (xs : List A) (n k : ℕ) (x : A) → (k ≡ n → ⊥) → slice_get (slice_set xs n x) k ≡ slice_get xs k
get_other [] n k x other = refl
get_other (y ∷ ys) zero zero x other = absurd (other refl)
get_other (y ∷ ys) zero (suc k) x other = refl
get_other (y ∷ ys) (suc n) zero x other = refl
get_other (y ∷ ys) (suc n) (suc k) x other = get_other ys n k x (λ e. other (ap suc e))

-- ---- lists behind one another

pub among_front : (xs ys : List ℕ) (n : ℕ) → IsAmong xs n → IsAmong (xs ++ ys) n
among_front xs ys n h = (h.0, front xs ys h.0 h.1) where
  front : (xs ys : List ℕ) (k : ℕ) → slice_get xs k ≡ Some n → slice_get (xs ++ ys) k ≡ Some n
  front [] ys k e = let f : ⊥ = cc in absurd f
  front (x ∷ xs) ys zero e = e
  front (x ∷ xs) ys (suc k) e = front xs ys k e

pub among_behind : (xs ys : List ℕ) (n : ℕ) → IsAmong ys n → IsAmong (xs ++ ys) n
among_behind [] ys n h = h
among_behind (x ∷ xs) ys n h = let r = among_behind xs ys n h in (suc r.0, r.1)

pub among_either : (xs ys : List ℕ) (n : ℕ) → IsAmong (xs ++ ys) n → IsAmong xs n ⊎ IsAmong ys n
among_either xs ys n h = at xs h.0 h.1 where
  at : (xs : List ℕ) (k : ℕ) → slice_get (xs ++ ys) k ≡ Some n → IsAmong xs n ⊎ IsAmong ys n
  at [] k e = inr (k, e)
  at (x ∷ xs) zero e = inl (zero, e)
  at (x ∷ xs) (suc k) e = elim (at xs k e) [ inl h ↦ inl (suc h.0, h.1) | inr h ↦ inr h ]

pub among_one : (x n : ℕ) → IsAmong (x ∷ []) n → x ≡ n
among_one x n h = at h.0 h.1 where
  at : (k : ℕ) → slice_get (x ∷ []) k ≡ Some n → x ≡ n
  at zero e = cc
  at (suc k) e = let f : ⊥ = cc in absurd f

pub among_none : (n : ℕ) → IsAmong [] n → ⊥
among_none n h = let e = h.1 in let f : ⊥ = cc in f

-- ---- missing marks

pub unmarked_none : (n : ℕ) → unmarked (replicate n false) ≡ n
unmarked_none zero = refl
unmarked_none (suc n) =
    let counted : unmarked (replicate (suc n) false) ≡ 1 + unmarked (replicate n false) = refl in
    let rest = unmarked_none n in
    omega arith

pub unmarked_less : (marks : List Bool) (n : ℕ) → slice_get marks n ≡ Some false → unmarked (slice_set marks n true) + 1 ≡ unmarked marks
unmarked_less [] n e = let f : ⊥ = cc in absurd f
unmarked_less (b ∷ bs) zero e = first b bs e where
  first : (b : Bool) (bs : List Bool) → slice_get (b ∷ bs) zero ≡ Some false → unmarked (true ∷ bs) + 1 ≡ unmarked (b ∷ bs)
  first true bs e = let f : ⊥ = cc in absurd f
  first false bs e =
      let before : unmarked (false ∷ bs) ≡ 1 + unmarked bs = refl in
      let after : unmarked (true ∷ bs) ≡ 0 + unmarked bs = refl in
      omega arith
unmarked_less (b ∷ bs) (suc n) e =
    let before : unmarked (b ∷ bs) ≡ cond b 0 1 + unmarked bs = refl in
    let after : unmarked (slice_set (b ∷ bs) (suc n) true) ≡ cond b 0 1 + unmarked (slice_set bs n true) = refl in
    let rest = unmarked_less bs n e in
    omega arith

pub none_marked : (n k : ℕ) → IsMarked (replicate n false) k → ⊥
none_marked zero k e = let f : ⊥ = cc in f
none_marked (suc n) zero e = let f : ⊥ = cc in f
none_marked (suc n) (suc k) e = none_marked n k e
