-- What stands in lists that are joined, and in the front of a list.
use Rattle.std.proofs.Common.{◌≡◌, ℕ, zero, suc, ◌+◌, ◌<◌, List, [], ◌∷◌, ◌++◌, length, take, get_or, Some, slice_get, ◌⊎◌, inl, inr, refl, sym, ap, subst, ◌∙◌}
use Rattle.std.specs.Borrow.{Bor}
use Rattle.std.specs.List.{flat_map}
use Rattle.std.proofs.lemmas.Grind.{flat_map-append}
use Rattle.std.proofs.lemmas.List.{map_more, append-nil}
use Rattle.std.proofs.lemmas.Option.{slice_get-get_or}
use Rattle.ir_core.specs.declared.instructions.Inst.{Inst}
use Rattle.shapes.specs.Insts.{inst_seen, insts_seen}

-- the item stands somewhere in the list
abbrev pub Among : {A : Type 0} → List A → A → Type 0
Among xs x = (place : ℕ) × (slice_get xs place ≡ Some x)

pub none_among : {A : Type 0} (x : A) → Among [] x → ⊥
none_among x h = let e = h.1 in let f : ⊥ = cc in f

pub in_front : {A : Type 0} (xs ys : List A) (x : A) → Among xs x → Among (xs ++ ys) x
in_front {A} xs ys x h = (h.0, at xs h.0 h.1) where
  at : (xs : List A) (k : ℕ) → slice_get xs k ≡ Some x → slice_get (xs ++ ys) k ≡ Some x
  at [] k e = let f : ⊥ = cc in absurd f
  at (z ∷ zs) zero e = e
  at (z ∷ zs) (suc k) e = at zs k e

pub behind : {A : Type 0} (xs ys : List A) (x : A) → Among ys x → Among (xs ++ ys) x
behind [] ys x h = h
behind (z ∷ zs) ys x h = let r = behind zs ys x h in (suc r.0, r.1)

pub in_either : {A : Type 0} (xs ys : List A) (x : A) → Among (xs ++ ys) x → Among xs x ⊎ Among ys x
in_either {A} xs ys x h = at xs h.0 h.1 where
  at : (xs : List A) (k : ℕ) → slice_get (xs ++ ys) k ≡ Some x → Among xs x ⊎ Among ys x
  at [] k e = inr (k, e)
  at (z ∷ zs) zero e = inl (zero, e)
  at (z ∷ zs) (suc k) e = elim (at zs k e) [ inl h ↦ inl (suc h.0, h.1) | inr h ↦ inr h ]

pub among_last : {A : Type 0} (xs : List A) (x y : A) → y ≡ x → Among (xs ++ x ∷ []) y
among_last xs x y e = behind xs (x ∷ []) y (zero, ap Some (sym e))

pub last_is : {A : Type 0} (x y : A) → Among (x ∷ []) y → y ≡ x
last_is x y h = at h.0 h.1 where
  at : (k : ℕ) → slice_get (x ∷ []) k ≡ Some y → y ≡ x
  at zero e = cc
  at (suc k) e = let f : ⊥ = cc in absurd f

-- the item of a list, and one of its part
abbrev pub Within : {A B : Type 0} → (A → List B) → List A → B → Type 0
Within {A} f xs y = (x : A) × Among xs x × Among (f x) y

pub within_joined : {A B : Type 0} (f : A → List B) (xs : List A) (y : B) → Among (flat_map f xs) y → Within f xs y
within_joined f [] y h = absurd (none_among y h)
within_joined f (x ∷ xs) y h = elim (in_either (f x) (flat_map f xs) y h) [
  | inl a ↦ (x, (zero, refl), a)
  | inr b ↦ let r = within_joined f xs y b in (r.0, (suc r.1.0, r.1.1), r.2)
]

pub joined_has : {A B : Type 0} (f : A → List B) (xs : List A) (x : A) (y : B) → Among xs x → Among (f x) y → Among (flat_map f xs) y
joined_has {A} {B} f xs x y h a = at xs h.0 h.1 where
  at : (xs : List A) (k : ℕ) → slice_get xs k ≡ Some x → Among (flat_map f xs) y
  at [] k e = let g : ⊥ = cc in absurd g
  at (z ∷ zs) zero e =
      let same : z ≡ x = cc in
      let P : A → Type 0 = λ w. Among (f w) y in
      in_front (f z) (flat_map f zs) y (subst P (sym same) a)
  at (z ∷ zs) (suc k) e = behind (f z) (flat_map f zs) y (at zs k e)

-- a list that is joined twice
pub fused : {X Y Z : Type 0} (f : Y → List Z) (g : X → List Y) (xs : List X) → flat_map f (flat_map g xs) ≡ flat_map (λ x. flat_map f (g x)) xs
fused f g [] = refl
fused f g (x ∷ xs) = flat_map-append f (g x) (flat_map g xs) ∙ ap (λ ys. flat_map f (g x) ++ ys) (fused f g xs)

-- ---- an item that is read

pub read_at : {A : Type 0} (xs ys : List A) (i : ℕ) (x : A) → xs ≡ ys → i < length xs → x ≡ get_or xs i x → slice_get ys i ≡ Some x
read_at xs ys i x same low is = sym (ap (λ zs. slice_get zs i) same) ∙ slice_get-get_or xs i x low ∙ ap Some (sym is)

-- one more instruction
pub seen_more : {B : Type 0} (of : Inst → List B) (insts : List (Bor Inst)) (n : ℕ) (i : Bor Inst) → n < length insts → i ≡ get_or insts n i →
    flat_map of (insts_seen (take (n + 1) insts)) ≡ flat_map of (insts_seen (take n insts)) ++ of (inst_seen i)
seen_more of insts n i low is =
    ap (flat_map of) (map_more inst_seen insts n i low)
    ∙ ap (λ j. flat_map of (insts_seen (take n insts) ++ inst_seen j ∷ [])) (sym is)
    ∙ flat_map-append of (insts_seen (take n insts)) (inst_seen i ∷ [])
    ∙ ap (λ ys. flat_map of (insts_seen (take n insts)) ++ ys) (append-nil (of (inst_seen i)))
