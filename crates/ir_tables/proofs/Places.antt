-- The places of types by their names.
use Rattle.std.proofs.Common.{◌≡◌, ℕ, ◌+◌, ◌<◌, List, [], ◌∷◌, ◌++◌, take, length, filter, Option, Some, None, option_map, Bool, true, false, cond, refl, sym, ap, ◌∙◌, subst, if◌then◌else◌, add-one}
use Rattle.std.specs.Prelude.{option_and_then, slice_get}
use Rattle.std.specs.Map.{lookup}
use Rattle.std.specs.Str.{bytes_eq}
use Rattle.std.proofs.Math.Seq.{take-suc}
use Rattle.std.proofs.lemmas.Option.{get_or_from_slice_get}
use Rattle.std.proofs.lemmas.Slice.Eq.{bytes_eq-Decides}
use Rattle.std.proofs.lemmas.Bool.Decides.{same_from_decides}
use Rattle.std.proofs.lemmas.List.{append-nil}
use Rattle.indexmap.specs.IndexMap.{insert_entry}
use Rattle.ir_core.specs.declared.module.TypeDef.{TypeDef}
use Rattle.ir_core.specs.Layout.{body_of, only_one}
use Rattle.ir_tables.specs.declared.table.Place.{Place}
use Rattle.ir_tables.specs.declared.table.Place.TheVariants.{Once, Twice}
use Rattle.ir_tables.specs.Table.{body_at, only_place, next_place}

pub same_turned : (x y : List ℕ) → bytes_eq x y ≡ bytes_eq y x
same_turned x y = same_from_decides (bytes_eq x y) (bytes_eq y x) (bytes_eq-Decides x y) ((λ e. sym ((bytes_eq-Decides y x).0 e)), (λ e. (bytes_eq-Decides y x).1 (sym e)))

-- ---- a name more in a table

module _ {K V : Type 0} (items : K → List ℕ) (name : K) (place : V) (x : List ℕ) where
  abbrev same_key : K → K → Bool
  same_key a b = bytes_eq (items a) (items b)

  abbrev is_key : K → Bool
  is_key k = bytes_eq x (items k)

  abbrev now : Option V → Option V
  now o = if bytes_eq x (items name) then Some place else o

  -- where the name stands already
  at_entry : (e : K × V) (rest : Option V) (b : Bool) → bytes_eq x (items e.0) ≡ b → bytes_eq x (items name) ≡ b → cond b (Some place) rest ≡ (if b then Some place else cond b (Some e.1) rest)
  at_entry e rest true p q = refl
  at_entry e rest false p q = refl

  -- behind another name
  past_entry : (e : K × V) (rest : Option V) (b c : Bool) → bytes_eq x (items e.0) ≡ b → bytes_eq x (items name) ≡ c → bytes_eq (items name) (items e.0) ≡ false → cond b (Some e.1) (if c then Some place else rest) ≡ (if c then Some place else cond b (Some e.1) rest)
  past_entry e rest true true p q other =
      let same : items name ≡ items e.0 = sym ((bytes_eq-Decides x (items name)).0 q) ∙ (bytes_eq-Decides x (items e.0)).0 p in
      let is : bytes_eq (items name) (items e.0) ≡ true = (bytes_eq-Decides (items name) (items e.0)).1 same in
      let f : ⊥ = cc in absurd f
  past_entry e rest true false p q other = refl
  past_entry e rest false c p q other = refl

  one_entry : (e : K × V) (es : List (K × V)) (b : Bool) → bytes_eq (items name) (items e.0) ≡ b → lookup is_key (insert_entry same_key es name place) ≡ now (lookup is_key es) →
      lookup is_key (if b then (e.0, place) ∷ es else e ∷ insert_entry same_key es name place) ≡ now (cond (is_key e.0) (Some e.1) (lookup is_key es))
  one_entry e es true same rest =
      let key : bytes_eq x (items name) ≡ bytes_eq x (items e.0) = ap (bytes_eq x) ((bytes_eq-Decides (items name) (items e.0)).0 same) in
      at_entry e (lookup is_key es) (is_key e.0) refl key ∙ ap (λ b. if b then Some place else cond (is_key e.0) (Some e.1) (lookup is_key es)) (sym key)
  one_entry e es false other rest = ap (cond (is_key e.0) (Some e.1)) rest ∙ past_entry e (lookup is_key es) (is_key e.0) (bytes_eq x (items name)) refl refl other

  pub lookup-insert : (es : List (K × V)) → lookup is_key (insert_entry same_key es name place) ≡ now (lookup is_key es)
  lookup-insert [] = refl
  lookup-insert (e ∷ es) = one_entry e es (bytes_eq (items name) (items e.0)) refl (lookup-insert es)

-- ---- places

abbrev pub named : List ℕ → List TypeDef → List TypeDef
named x types = filter (λ (d : TypeDef). bytes_eq d.name x) types

-- the place of the types of one name
abbrev pub Fits : List TypeDef → Option Place → List TypeDef → Type 0
Fits types None ds = ds ≡ []
Fits types (Some (Once at)) ds = (d : TypeDef) × (ds ≡ d ∷ []) × (slice_get types at ≡ Some d)
Fits types (Some Twice) ds = (d : TypeDef) × (e : TypeDef) × (rest : List TypeDef) × (ds ≡ d ∷ e ∷ rest)

one_more : (types : List TypeDef) (at : ℕ) (d : TypeDef) (o : Option Place) (ds : List TypeDef) → slice_get types at ≡ Some d → Fits types o ds → Fits types (Some (next_place at o)) (ds ++ d ∷ [])
one_more types at d None ds here fits = (d, ap (λ l. l ++ d ∷ []) fits, here)
one_more types at d (Some (Once j)) ds here fits = (fits.0, d, [], ap (λ l. l ++ d ∷ []) fits.1)
one_more types at d (Some Twice) ds here fits = (fits.0, fits.1, fits.2 ++ d ∷ [], ap (λ l. l ++ d ∷ []) fits.3)

named-push : (x : List ℕ) (ds : List TypeDef) (d : TypeDef) → named x (ds ++ d ∷ []) ≡ named x ds ++ cond (bytes_eq d.name x) (d ∷ []) []
named-push x [] d = elim (bytes_eq d.name x) as (λ b. cond b (d ∷ []) [] ≡ cond b (d ∷ []) []) [ true ↦ refl | false ↦ refl ]
named-push x (e ∷ ds) d = elim (bytes_eq e.name x) as (λ b. cond b (e ∷ named x (ds ++ d ∷ [])) (named x (ds ++ d ∷ [])) ≡ cond b (e ∷ named x ds) (named x ds) ++ cond (bytes_eq d.name x) (d ∷ []) []) [
  | true ↦ ap (λ l. e ∷ l) (named-push x ds d)
  | false ↦ named-push x ds d
]

-- one type more, where the table has the place of its name
pub fits_more : (types : List TypeDef) (at : ℕ) (d : TypeDef) (x : List ℕ) (o mine : Option Place) → at < length types → slice_get types at ≡ Some d → Fits types o (named x (take at types)) → (bytes_eq x d.name ≡ true → mine ≡ o) →
    Fits types (if bytes_eq x d.name then Some (next_place at mine) else o) (named x (take (at + 1) types))
fits_more types at d x o mine low here fits same =
    let list : take (at + 1) types ≡ take at types ++ d ∷ [] = ap (λ n. take n types) (add-one at) ∙ take-suc types at d low ∙ ap (λ e. take at types ++ e ∷ []) (get_or_from_slice_get types at d d here) in
    let push : named x (take (at + 1) types) ≡ named x (take at types) ++ cond (bytes_eq x d.name) (d ∷ []) [] = ap (named x) list ∙ named-push x (take at types) d ∙ ap (λ b. named x (take at types) ++ cond b (d ∷ []) []) (same_turned d.name x) in
    subst (Fits types (if bytes_eq x d.name then Some (next_place at mine) else o)) (sym push) (by (bytes_eq x d.name) same)
  where
    by : (b : Bool) → (b ≡ true → mine ≡ o) → Fits types (if b then Some (next_place at mine) else o) (named x (take at types) ++ cond b (d ∷ []) [])
    by true is = subst (λ p. Fits types (Some (next_place at p)) (named x (take at types) ++ d ∷ [])) (sym (is refl)) (one_more types at d o (named x (take at types)) here fits)
    by false is = subst (Fits types o) (sym (append-nil (named x (take at types)))) fits

-- the places are right once all types are in the table
pub fits_body : (types : List TypeDef) (x : List ℕ) (o : Option Place) → Fits types o (named x types) → body_of types x ≡ option_and_then (body_at types) (option_and_then only_place o)
fits_body types x None fits = ap only_one fits
fits_body types x (Some (Once at)) fits = ap only_one fits.1 ∙ ap (option_map (λ (d : TypeDef). d.body)) (sym fits.2)
fits_body types x (Some Twice) fits = ap only_one fits.3
