-- One item further along a list.
use Rattle.std.proofs.Common.{◌≡◌, ℕ, suc, ◌+◌, ◌<◌, List, [], ◌∷◌, ◌++◌, drop, length, get_or, Option, Some, None, option_map, Bool, true, false, refl, sym, ap, ◌∙◌, if◌then◌else◌, add-one, drop-cons, arith, length-append}
use Rattle.std.proofs.lemmas.Option.{none-some, same_Some}
use Rattle.std.specs.List.{flat_map}
use Rattle.std.specs.Str.{bytes_eq}
use Rattle.ir_core.specs.declared.types.Ty.{Ty}
use Rattle.ir_core.specs.declared.module.TypeDef.{TypeDef}
use Rattle.ir_core.specs.Layout.{only_one}
use Rattle.ir_core.specs.Places.{place_from, place_in}

-- ---- the one type of a name

-- what there is with more types behind
abbrev pub only_more : Option Ty → List TypeDef → Option Ty
only_more None ds = only_one ds
only_more (Some ty) [] = Some ty
only_more (Some ty) (d ∷ ds) = None

pub only_first : (d : TypeDef) (ds : List TypeDef) → only_more (Some d.body) ds ≡ only_one (d ∷ ds)
only_first d [] = refl
only_first d (e ∷ ds) = refl

-- ---- places

appended : (n : ℕ) (z : Bool) (first rest both : Option ℕ) → (if z then Some n else first) ≡ None → (first ≡ None → rest ≡ both) → rest ≡ (if z then Some n else both)
appended n true first rest both e more = absurd (none-some n (sym e))
appended n false first rest both e more = more e

pub place_from-append : (n : ℕ) (xs ys : List (List ℕ)) (x : List ℕ) → place_from n xs x ≡ None → place_from (n + length xs) ys x ≡ place_from n (xs ++ ys) x
place_from-append n [] ys x none = ap (λ k. place_from k ys x) (omega arith)
place_from-append n (z ∷ xs) ys x none =
    let same : n + length (z ∷ xs) ≡ n + 1 + length xs = omega arith in
    ap (λ k. place_from k ys x) same ∙ appended n (bytes_eq z x) (place_from (n + 1) xs x) (place_from (n + 1 + length xs) ys x) (place_from (n + 1) (xs ++ ys) x) none (place_from-append (n + 1) xs ys x)

kept : (n i : ℕ) (z : Bool) (first both : Option ℕ) → (if z then Some n else first) ≡ Some i → (first ≡ Some i → both ≡ Some i) → (if z then Some n else both) ≡ Some i
kept n i true first both e more = e
kept n i false first both e more = more e

pub place_from-found : (n i : ℕ) (xs ys : List (List ℕ)) (x : List ℕ) → place_from n xs x ≡ Some i → place_from n (xs ++ ys) x ≡ Some i
place_from-found n i [] ys x found = absurd (none-some i found)
place_from-found n i (z ∷ xs) ys x found = kept n i (bytes_eq z x) (place_from (n + 1) xs x) (place_from (n + 1) (xs ++ ys) x) found (place_from-found (n + 1) i xs ys x)

pub found_before : (xs ys : List (List ℕ)) (x : List ℕ) (o : Option ℕ) → (o ≡ None → ⊥) → o ≡ place_in xs x → o ≡ place_in (xs ++ ys) x
found_before xs ys x None some is = absurd (some refl)
found_before xs ys x (Some i) some is = sym (place_from-found 0 i xs ys x (sym is))

-- counted from another number
pub place_from-more : (n k : ℕ) (xs : List (List ℕ)) (x : List ℕ) → place_from (n + k) xs x ≡ option_map (λ i. n + i) (place_from k xs x)
place_from-more n k [] x = refl
place_from-more n k (z ∷ xs) x =
    elim (bytes_eq z x) as (λ b. (if b then Some (n + k) else place_from (n + k + 1) xs x) ≡ option_map (λ i. n + i) (if b then Some k else place_from (k + 1) xs x)) [
      | true ↦ refl
      | false ↦ let same : n + k + 1 ≡ n + (k + 1) = omega arith in ap (λ j. place_from j xs x) same ∙ place_from-more n (k + 1) xs x
    ]

bounded : (n i length_of : ℕ) (z : Bool) (first : Option ℕ) → (if z then Some n else first) ≡ Some i → (first ≡ Some i → i < n + 1 + length_of) → i < n + suc length_of
bounded n i length_of true first e more = let same = same_Some n i e in omega arith
bounded n i length_of false first e more = let low = more e in omega arith

pub place_from-within : (n i : ℕ) (xs : List (List ℕ)) (x : List ℕ) → place_from n xs x ≡ Some i → i < n + length xs
place_from-within n i [] x found = absurd (none-some i found)
place_from-within n i (z ∷ xs) x found = bounded n i (length xs) (bytes_eq z x) (place_from (n + 1) xs x) found (place_from-within (n + 1) i xs x)

-- ---- names that each item of a list gives

module _ {A : Type 0} (names : A → List (List ℕ)) (items : List A) (at : ℕ) (d a : A) (low : at < length items) (is : a ≡ get_or items at d) where
  pub opened : flat_map names (drop at items) ≡ names a ++ flat_map names (drop (at + 1) items)
  opened =
      ap (flat_map names) (drop-cons items at d low)
      ∙ ap (λ b. names b ++ flat_map names (drop (suc at) items)) (sym is)
      ∙ ap (λ n. names a ++ flat_map names (drop n items)) (sym (add-one at))

  pub count_more : (before : ℕ) → before + length (names a) + length (flat_map names (drop (at + 1) items)) ≡ before + length (flat_map names (drop at items))
  count_more before = let both = ap length opened ∙ length-append (names a) (flat_map names (drop (at + 1) items)) in omega arith

  pub found_here : (before i : ℕ) (x : List ℕ) → place_in (names a) x ≡ Some i → place_from before (flat_map names (drop at items)) x ≡ Some (before + i)
  found_here before i x found =
      let zero : before ≡ before + 0 = omega arith in
      ap (λ ns. place_from before ns x) opened
      ∙ place_from-found before (before + i) (names a) (flat_map names (drop (at + 1) items)) x (ap (λ n. place_from n (names a) x) zero ∙ place_from-more before 0 (names a) x ∙ ap (option_map (λ i. before + i)) found)

  pub found_behind : (before : ℕ) (x : List ℕ) → place_in (names a) x ≡ None → place_from (before + length (names a)) (flat_map names (drop (at + 1) items)) x ≡ place_from before (flat_map names (drop at items)) x
  found_behind before x none =
      let zero : before ≡ before + 0 = omega arith in
      place_from-append before (names a) (flat_map names (drop (at + 1) items)) x (ap (λ n. place_from n (names a) x) zero ∙ place_from-more before 0 (names a) x ∙ ap (option_map (λ i. before + i)) none)
      ∙ ap (λ ns. place_from before ns x) (sym opened)
