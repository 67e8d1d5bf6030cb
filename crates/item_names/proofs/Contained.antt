-- A type contains itself where it leads to itself by the places of its parts.
use Rattle.std.proofs.Common.{◌≡◌, ℕ, zero, suc, ◌+◌, List, [], ◌∷◌, ◌++◌, length, map, Option, Some, None, option_map, Bool, true, false, ◌||◌, refl, sym, ap, ◌∙◌, if◌then◌else◌, ◌==◌, arith}
use Rattle.std.proofs.lemmas.List.{length-map}
use Rattle.std.proofs.lemmas.Option.{none-some, same_Some}
use Rattle.std.proofs.lemmas.Slice.Eq.{bytes_eq-Decides}
use Rattle.std.specs.Prelude.{option_and_then, slice_get}
use Rattle.std.specs.List.{flat_map, list_any}
use Rattle.std.specs.Str.{bytes_eq}
use Rattle.std.specs.declared.alloc.Global.{Global}
use Rattle.std.specs.declared.vec.Vec.{Vec}
use Rattle.indexmap.specs.IndexMap.{IndexMap}
use Rattle.ir_core.specs.declared.module.TypeDef.{TypeDef}
use Rattle.ir_core.specs.Given.{names_in, type_given}
use Rattle.ir_core.specs.NameRefusals.{body_names, leads_to, contains_itself}
use Rattle.ir_core.specs.Places.{Name, place_from, place_in}
use Rattle.ir_core.specs.Wrappers.{is_in}
use Rattle.ir_tables.specs.Names.{type_name, HasPlaces}
use Rattle.name_tables.proofs.First.{first_at}
use Rattle.item_names.specs.Circles.{listed, found_parts, or_none, parts_at, has, leads}
use Rattle.item_names.proofs.Ways.{has_append, same_of, true_or_false, itself}

-- ---- places of names

abbrev pub places_of : List Name → List Name → List ℕ
places_of names xs = flat_map (λ x. listed (place_in names x)) xs

-- for each type the places of its parts
abbrev pub parts_of : List Name → List TypeDef → List (List ℕ)
parts_of names types = map (λ d. places_of names (names_in d.body)) types

named_there : (n : ℕ) (ys : List Name) (x : Name) (p : ℕ) → place_from n ys x ≡ Some p → (q : ℕ) × (p ≡ n + q) × (slice_get ys q ≡ Some x)
named_there n [] x p e = absurd (none-some p e)
named_there n (y ∷ ys) x p e = by (bytes_eq y x) refl e (named_there (n + 1) ys x p)
  where
    Found : Type 0
    Found = (q : ℕ) × (p ≡ n + q) × (slice_get (y ∷ ys) q ≡ Some x)

    Rest : Type 0
    Rest = place_from (n + 1) ys x ≡ Some p → (q : ℕ) × (p ≡ n + 1 + q) × (slice_get ys q ≡ Some x)

    behind : (q : ℕ) × (p ≡ n + 1 + q) × (slice_get ys q ≡ Some x) → Found
    behind f = (suc f.0, omega (arith, f.1), f.2)

    by : (b : Bool) → bytes_eq y x ≡ b → (if b then Some n else place_from (n + 1) ys x) ≡ Some p → Rest → Found
    by true s h rest = (0, omega (arith, same_Some n p h), ap Some ((bytes_eq-Decides y x).0 s))
    by false s h rest = behind (rest h)

same_named : (names : List Name) (x y : Name) (p : ℕ) → place_in names x ≡ Some p → place_in names y ≡ Some p → x ≡ y
same_named names x y p e f =
    let a = named_there 0 names x p e in
    let b = named_there 0 names y p f in
    let same : a.0 ≡ b.0 = omega (arith, a.1, b.1) in
    same_Some x y (sym a.2 ∙ ap (slice_get names) same ∙ b.2)

name_eq_place : (names : List Name) (x y : Name) (p : ℕ) → place_in names x ≡ Some p → bytes_eq x y ≡ has p (listed (place_in names y))
name_eq_place names x y p e = by (bytes_eq x y) refl (place_in names y) refl
  where
    by : (b : Bool) → bytes_eq x y ≡ b → (o : Option ℕ) → place_in names y ≡ o → b ≡ has p (listed o)
    by true s o f =
        let here : o ≡ Some p = sym f ∙ ap (place_in names) (sym ((bytes_eq-Decides x y).0 s)) ∙ e in
        sym (ap (λ u. has p (listed u)) here ∙ ap (λ c. c || false) (itself p))
    by false s None f = refl
    by false s (Some q) f = apart (q == p) refl
      where
        apart : (c : Bool) → (q == p) ≡ c → false ≡ (c || false)
        apart true h = true_or_false (bytes_eq x y) ((bytes_eq-Decides x y).1 (same_named names x y p e (f ∙ ap Some (same_of q p h)))) s
        apart false h = refl

in_places : (names : List Name) (x : Name) (p : ℕ) → place_in names x ≡ Some p → (ys : List Name) → is_in ys x ≡ has p (places_of names ys)
in_places names x p e [] = refl
in_places names x p e (y ∷ ys) =
    ap (λ b. if b then true else is_in ys x) (name_eq_place names x y p e)
    ∙ ap (λ b. if has p (listed (place_in names y)) then true else b) (in_places names x p e ys)
    ∙ or_is (has p (listed (place_in names y))) (has p (places_of names ys))
    ∙ sym (has_append p (listed (place_in names y)) (places_of names ys))
  where
    or_is : (a b : Bool) → (if a then true else b) ≡ (a || b)
    or_is true b = refl
    or_is false b = refl

any_append : (test : ℕ → Bool) (xs ys : List ℕ) → list_any test (xs ++ ys) ≡ (list_any test xs || list_any test ys)
any_append test [] ys = refl
any_append test (x ∷ xs) ys = ap (λ b. test x || b) (any_append test xs ys) ∙ by (test x)
  where
    by : (b : Bool) → (b || (list_any test xs || list_any test ys)) ≡ ((b || list_any test xs) || list_any test ys)
    by true = refl
    by false = refl

-- ---- ways from name to name are ways from place to place

nothing_leads : (n : ℕ) (types : List TypeDef) (x : Name) → leads_to n types x [] ≡ false
nothing_leads zero types x = refl
nothing_leads (suc n) types x = refl

module _ (types : List TypeDef) where
  abbrev names : List Name
  names = map type_name types

  abbrev parts : List (List ℕ)
  parts = parts_of names types

  abbrev own_places : TypeDef → List ℕ
  own_places d = places_of names (names_in d.body)

  get_map : (ds : List TypeDef) (q : ℕ) → slice_get (map own_places ds) q ≡ option_map own_places (slice_get ds q)
  get_map [] q = refl
  get_map (d ∷ ds) zero = refl
  get_map (d ∷ ds) (suc q) = get_map ds q

  pub parts_here : (q : ℕ) (d : TypeDef) → slice_get types q ≡ Some d → parts_at parts q ≡ own_places d
  parts_here q d e = ap or_none (get_map types q) ∙ ap (λ o. or_none (option_map own_places o)) e

  body_places : (q : ℕ) (o : Option TypeDef) → slice_get types q ≡ o → parts_at parts q ≡ places_of names (body_names (option_map (λ (d : TypeDef). d.body) o))
  body_places q None e = ap or_none (get_map types q) ∙ ap (λ o. or_none (option_map own_places o)) e
  body_places q (Some d) e = parts_here q d e

  given_places : (y : Name) (q : ℕ) → place_in names y ≡ Some q → parts_at parts q ≡ places_of names (body_names (type_given types y))
  given_places y q e =
      body_places q (slice_get types q) refl
      ∙ ap (λ o. places_of names (body_names (option_map (λ (d : TypeDef). d.body) (option_and_then (slice_get types) o)))) (sym e)
      ∙ ap (λ o. places_of names (body_names (option_map (λ (d : TypeDef). d.body) o))) (sym (first_at type_name types y))

  not_given : (y : Name) → place_in names y ≡ None → body_names (type_given types y) ≡ []
  not_given y e =
      ap (λ o. body_names (option_map (λ (d : TypeDef). d.body) o)) (first_at type_name types y)
      ∙ ap (λ o. body_names (option_map (λ (d : TypeDef). d.body) (option_and_then (slice_get types) o))) e

  module _ (x : Name) (p : ℕ) (place : place_in names x ≡ Some p) where
    abbrev Same : ℕ → Type 0
    Same n = (ys : List Name) → leads_to n types x ys ≡ list_any (leads parts p n) (places_of names ys)

    one_name : (n : ℕ) → Same n → (y : Name) (o : Option ℕ) → place_in names y ≡ o → (bytes_eq x y || leads_to n types x (body_names (type_given types y))) ≡ list_any (leads parts p (suc n)) (listed o)
    one_name n same y None e =
        ap (λ b. b || leads_to n types x (body_names (type_given types y))) (name_eq_place names x y p place ∙ ap (λ o. has p (listed o)) e)
        ∙ ap (leads_to n types x) (not_given y e)
        ∙ nothing_leads n types x
    one_name n same y (Some q) e =
        ap (λ b. b || leads_to n types x (body_names (type_given types y))) (name_eq_place names x y p place ∙ ap (λ o. has p (listed o)) e)
        ∙ ap (λ b. ((q == p) || false) || b) (same (body_names (type_given types y)) ∙ ap (list_any (leads parts p n)) (sym (given_places y q e)))
        ∙ by (q == p) (list_any (leads parts p n) (parts_at parts q))
      where
        by : (a b : Bool) → ((a || false) || b) ≡ ((if a then true else b) || false)
        by true b = refl
        by false true = refl
        by false false = refl

    either_name : (n : ℕ) → Same n → (ys : List Name) → (if is_in ys x then true else list_any (λ y. leads_to n types x (body_names (type_given types y))) ys) ≡ list_any (leads parts p (suc n)) (places_of names ys)
    either_name n same [] = refl
    either_name n same (y ∷ ys) =
        by (bytes_eq x y) (leads_to n types x (body_names (type_given types y))) (is_in ys x) (list_any (λ z. leads_to n types x (body_names (type_given types z))) ys)
        ∙ ap (λ b. b || (if is_in ys x then true else list_any (λ z. leads_to n types x (body_names (type_given types z))) ys)) (one_name n same y (place_in names y) refl)
        ∙ ap (λ b. list_any (leads parts p (suc n)) (listed (place_in names y)) || b) (either_name n same ys)
        ∙ sym (any_append (leads parts p (suc n)) (listed (place_in names y)) (places_of names ys))
      where
        by : (a b c d : Bool) → (if (if a then true else c) then true else (b || d)) ≡ ((a || b) || (if c then true else d))
        by true b c d = refl
        by false true true d = refl
        by false true false d = refl
        by false false true d = refl
        by false false false d = refl

    pub same_ways : (n : ℕ) → Same n
    same_ways zero ys = in_places names x p place ys
    same_ways (suc n) ys = either_name n (same_ways n) ys

  pub parts_size : length parts ≡ length types
  parts_size = length-map types own_places

  -- the first type of its name contains itself where its place leads to itself
  pub on_circle : (d : TypeDef) (at : ℕ) → slice_get types at ≡ Some d → place_in names d.name ≡ Some at → contains_itself types d ≡ list_any (leads parts at (length parts)) (parts_at parts at)
  on_circle d at here place =
      same_ways d.name at place (length types) (names_in d.body)
      ∙ ap (λ n. list_any (leads parts at n) (own_places d)) (sym parts_size)
      ∙ ap (list_any (leads parts at (length parts))) (sym (parts_here at d here))

  -- the parts that are found by a table
  pub parts_found : {S : Type 0} (table : IndexMap (Vec ℕ Global) ℕ S) → HasPlaces names table → found_parts table types ≡ parts
  parts_found table places = ap (λ (f : Name → Option ℕ). map (λ (d : TypeDef). flat_map (λ x. listed (f x)) (names_in d.body)) types) (λ i x. places x i)
