-- A chain of names from type to type is no longer than there are types, so that each name has a layout.
use Rattle.std.proofs.Common.{◌≡◌, ℕ, zero, suc, ◌+◌, ◌≤◌, List, [], ◌∷◌, length, map, Some, is_some, Bool, true, false, refl, sym, ap, ◌∙◌, subst, if◌then◌else◌, arith}
use Rattle.std.specs.Prelude.{option_and_then, slice_get}
use Rattle.std.specs.List.{list_any}
use Rattle.std.specs.Str.{bytes_eq}
use Rattle.std.proofs.lemmas.List.{length-map}
use Rattle.std.proofs.lemmas.Slice.Eq.{bytes_eq-Decides}
use Rattle.ir_core.specs.declared.types.Ty.{Ty}
use Rattle.ir_core.specs.declared.module.TypeDef.{TypeDef}
use Rattle.ir_core.specs.Given.{names_in, type_given}
use Rattle.ir_core.specs.Layout.{named_layout, body_of, WellFormed}
use Rattle.ir_core.specs.NameRefusals.{repeated, body_names, leads_to, contains_itself}
use Rattle.ir_core.specs.Places.{Name}
use Rattle.ir_core.specs.Wrappers.{is_in}
use Rattle.accepted_laws.specs.Sized.{are_parts_sized}
use Rattle.accepted_laws.proofs.Nothing.{not_both}
use Rattle.accepted_laws.proofs.Clean.{type_entry}
use Rattle.accepted_laws.proofs.Distinct.{in_first, any_in, AllApart, no_more}
use Rattle.accepted_laws.proofs.Laid.{layout_by, laid}
use Rattle.accepted_laws.proofs.Once.{given_as, name_there, only_body}

module _ (types : List TypeDef) where
  -- each of these names is a type's
  abbrev pub AllGiven : List Name → Type 0
  AllGiven xs = (x : Name) → is_in xs x ≡ true → is_some (type_given types x) ≡ true

  -- types that are given once, of names that are given, none in itself, and of parts that have sizes
  pub record AreSized : Type 0 where
    pub once : repeated [] (map type_entry types) ≡ []
    pub given : (place : ℕ) (d : TypeDef) → slice_get types place ≡ Some d → AllGiven (names_in d.body)
    pub apart : (place : ℕ) (d : TypeDef) → slice_get types place ≡ Some d → contains_itself types d ≡ false
    pub sized : (place : ℕ) (d : TypeDef) → slice_get types place ≡ Some d → are_parts_sized d.body ≡ true

  -- ---- chains of names, the last one first

  abbrev names_of : Name → List Name
  names_of x = body_names (type_given types x)

  abbrev Steps : Name → List Name → Type 0
  Steps x [] = Unit {0}
  Steps x (p ∷ path) = (is_in (names_of p) x ≡ true) × Steps p path

  -- a name is reached from another's body within so many steps, or more
  abbrev Reaches : Name → Name → ℕ → Type 0
  Reaches y x k = (s : ℕ) → k ≤ s → leads_to s types y (names_of x) ≡ true

  at_once : (y x : Name) → is_in (names_of x) y ≡ true → Reaches y x 0
  at_once y x e zero low = e
  at_once y x e (suc s) low = ap (λ b. if b then true else list_any (λ z. leads_to s types y (names_of z)) (names_of x)) e

  one_back : (y x p : Name) (k : ℕ) → Reaches y x k → is_in (names_of p) x ≡ true → Reaches y p (suc k)
  one_back y x p k r e zero low = absurd (omega arith)
  one_back y x p k r e (suc s) low = by (is_in (names_of p) y)
    where
      by : (b : Bool) → (if b then true else list_any (λ z. leads_to s types y (names_of z)) (names_of p)) ≡ true
      by true = refl
      by false = any_in (λ z. leads_to s types y (names_of z)) (names_of p) x e (r s (omega arith))

  later : (y x : Name) (k n : ℕ) → k ≤ n → Reaches y x k → Reaches y x n
  later y x k n low r s h = r s (omega arith)

  -- what the last of a chain reaches each of them reaches
  reached : (y x : Name) (path : List Name) (k : ℕ) → Reaches y x k → Steps x path → (q : Name) → is_in (x ∷ path) q ≡ true → Reaches y q (k + length path)
  reached y x [] k r st q e = by (bytes_eq q x) refl e
    where
      by : (b : Bool) → bytes_eq q x ≡ b → (if b then true else false) ≡ true → Reaches y q (k + length {A = Name} [])
      by true h i = subst (λ z. Reaches y z (k + length {A = Name} [])) (sym ((bytes_eq-Decides q x).0 h)) (later y x k (k + length {A = Name} []) (omega arith) r)
      by false h i = not_both false i refl
  reached y x (p ∷ path) k r st q e = by (bytes_eq q x) refl e (reached y p path (suc k) (one_back y x p k r st.0) st.1 q)
    where
      by : (b : Bool) → bytes_eq q x ≡ b → (if b then true else is_in (p ∷ path) q) ≡ true → (is_in (p ∷ path) q ≡ true → Reaches y q (suc k + length path)) → Reaches y q (k + length (p ∷ path))
      by true h i rest = subst (λ z. Reaches y z (k + length (p ∷ path))) (sym ((bytes_eq-Decides q x).0 h)) (later y x k (k + length (p ∷ path)) (omega arith) r)
      by false h i rest = later y q (suc k + length path) (k + length (p ∷ path)) (omega arith) (rest i)

  module _ (all : AreSized) where
    -- a chain doesn't come back to one of its names
    not_again : (y x : Name) (path : List Name) → Steps x path → is_in (names_of x) y ≡ true → is_some (type_given types y) ≡ true → length path ≤ length types → is_in (x ∷ path) y ≡ false
    not_again y x path st e given low = by (is_in (x ∷ path) y) refl
      where
        by : (b : Bool) → is_in (x ∷ path) y ≡ b → b ≡ false
        by true h =
            let g = given_as types y given in
            let way = reached y x path 0 (at_once y x e) st y h (length types) (omega arith) in
            not_both (contains_itself types g.type_)
            (ap (λ z. leads_to (length types) types z (names_in g.type_.body)) g.name ∙ ap (λ o. leads_to (length types) types y (body_names o)) (sym g.body) ∙ way)
            (all.apart g.place g.type_ g.there)
        by false h = refl

    with_given : (y : Name) (xs : List Name) → is_some (type_given types y) ≡ true → AllGiven xs → AllGiven (y ∷ xs)
    with_given y xs g gs z e = by (bytes_eq z y) refl e
      where
        by : (b : Bool) → bytes_eq z y ≡ b → (if b then true else is_in xs z) ≡ true → is_some (type_given types z) ≡ true
        by true h i = ap (λ w. is_some (type_given types w)) ((bytes_eq-Decides z y).0 h) ∙ g
        by false h i = gs z i

    not_longer : (xs : List Name) → AllApart xs → AllGiven xs → length xs ≤ length types
    not_longer xs apart given =
        subst (λ n. length xs ≤ n) (length-map types (λ (c : TypeDef). c.name))
        (no_more xs (map (λ (c : TypeDef). c.name) types) apart (λ z e. let g = given_as types z (given z e) in ap (is_in (map (λ (c : TypeDef). c.name) types)) (sym g.name) ∙ name_there types g.place g.type_ g.there))

    -- the last of a chain has a layout as deep as there are more types than before it in the chain
    deep : (n : ℕ) (x : Name) (path : List Name) → n + length path ≡ length types → Steps x path → AllApart (x ∷ path) → AllGiven (x ∷ path) → is_some (named_layout n types x) ≡ true
    deep zero x path size st apart given = let most = not_longer (x ∷ path) apart given in absurd (omega arith)
    deep (suc n) x path size st apart given =
        let g = given_as types x (given x (in_first x path)) in
        let body : body_of types x ≡ Some g.type_.body = only_body [] x types g.type_.body all.once g.body in
        let short : length path ≤ length types = omega arith in
        ap (λ o. is_some (option_and_then (layout_by (named_layout n types)) o)) body
        ∙ laid (named_layout n types) g.type_.body (all.sized g.place g.type_ g.there) (λ y e.
        let there = ap (λ o. is_in (body_names o) y) g.body ∙ e in
        let given_y = all.given g.place g.type_ g.there y e in
        deep n y (x ∷ path) (omega arith) (there, st) (not_again y x path st there given_y short, apart) (with_given y (x ∷ path) given_y given))

    pub well : (ty : Ty) → are_parts_sized ty ≡ true → AllGiven (names_in ty) → WellFormed types ty
    well ty sized given = laid (named_layout (length types) types) ty sized (λ y e. deep (length types) y [] (omega arith) tt (refl, tt) (with_given y [] (given y e) (λ z f. not_both false f refl)))
