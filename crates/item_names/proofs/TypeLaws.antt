-- What is refused of types, told one type after another.
use Rattle.std.proofs.Common.{◌≡◌, ℕ, suc, ◌+◌, ◌<◌, ◌≤◌, List, [], ◌∷◌, ◌++◌, length, map, take, drop, get_or, Option, Some, None, Bool, true, false, ◌||◌, not, refl, sym, ap, ◌∙◌, if◌then◌else◌, nat_lt, ◌==◌, ◌&&◌, arith, add-one, drop-cons}
use Rattle.std.proofs.Math.Seq.{take-suc}
use Rattle.std.proofs.lemmas.Bool.Decides.{nat_tests}
use Rattle.std.proofs.lemmas.List.{drop_all, map-append, length-map, length-take-le, take-append-drop}
use Rattle.std.proofs.lemmas.Slice.Eq.{bytes_eq-Decides}
use Rattle.std.specs.List.{flat_map}
use Rattle.std.specs.Str.{bytes_eq}
use Rattle.ir_core.specs.declared.module.Module.{Module}
use Rattle.ir_core.specs.declared.module.TypeDef.{TypeDef}
use Rattle.ir_core.specs.declared.refusal.Construct.{Construct}
use Rattle.ir_core.specs.declared.refusal.Construct.TheVariants.{DuplicateName, TypeMismatch}
use Rattle.ir_core.specs.declared.refusal.Refusal.{Refusal}
use Rattle.ir_core.specs.Places.{Name, place_from, place_in}
use Rattle.ir_core.specs.Typing.{in_type, expects}
use Rattle.ir_core.specs.NameRefusals.{at, least, repeated, of_type, contains_itself}
use Rattle.ir_core.specs.Wrappers.{is_in}
use Rattle.ir_tables.proofs.Places.{same_turned}
use Rattle.name_tables.specs.Least.{or_first, at_line, least_of}
use Rattle.ir_tables.specs.Names.{type_name}
use Rattle.name_tables.proofs.RefusalLaws.{first_append, first_at, or_first-assoc, or_first-turned}
use Rattle.name_tables.specs.Repeated.{if_second}
use Rattle.item_names.specs.Repeated.{type_entry, is_place}
use Rattle.item_names.specs.Items.{is_told}

-- ---- what is told of several refusals

move : (x y z : Option Refusal) → or_first (or_first x y) z ≡ or_first (or_first x z) y
move x y z = or_first-assoc x y z ∙ ap (or_first x) (or_first-turned y z) ∙ sym (or_first-assoc x z y)

-- of a second type nothing else is told
absorbed : (f d t b : Option Refusal) → or_first d b ≡ d → or_first (or_first f d) t ≡ or_first (or_first (or_first f d) t) b
absorbed f d t b e =
    ap (λ o. or_first (or_first f o) t) (sym e)
    ∙ ap (λ o. or_first o t) (sym (or_first-assoc f d b))
    ∙ move (or_first f d) b t

regroup : (f d t b r q : Option Refusal) → or_first (or_first (or_first (or_first f d) t) b) (or_first r q) ≡ or_first f (or_first (or_first d r) (or_first (or_first t b) q))
regroup f d t b r q =
    ap (λ o. or_first o (or_first r q)) (or_first-assoc (or_first f d) t b ∙ or_first-assoc f d (or_first t b))
    ∙ or_first-assoc f (or_first d (or_first t b)) (or_first r q)
    ∙ ap (or_first f) (
    or_first-assoc d (or_first t b) (or_first r q)
    ∙ ap (or_first d) (sym (or_first-assoc (or_first t b) r q) ∙ ap (λ o. or_first o q) (or_first-turned (or_first t b) r) ∙ or_first-assoc r (or_first t b) q)
    ∙ sym (or_first-assoc d r (or_first (or_first t b) q)))

not_after : (line : ℕ) → (if nat_lt line line then true else ((line == line) && nat_lt 4 2)) ≡ false
not_after line = grind (arith, nat_tests)

second_alone : (line : ℕ) (holds : Bool) → or_first (least (if_second true line)) (at_line line (least_of (expects holds))) ≡ least (if_second true line)
second_alone line true = refl
second_alone line false = ap (λ b. if b then Some (record { construct = TypeMismatch; line = line }) else Some (record { construct = DuplicateName; line = line })) (not_after line)

at-append : (line : ℕ) (as_ bs : List Construct) → at line (as_ ++ bs) ≡ at line as_ ++ at line bs
at-append line as_ bs = map-append (λ c. record { construct = c; line = line }) as_ bs

of_one : (m : Module) (d : TypeDef) → least (of_type m d) ≡ or_first (at_line d.line (least_of (in_type m d.body))) (at_line d.line (least_of (expects (not (contains_itself m.types d)))))
of_one m d =
    let a = in_type m d.body in
    let b = expects (not (contains_itself m.types d)) in
    ap least (at-append d.line a b) ∙ first_append (at d.line a) (at d.line b) ∙ ap (λ o. or_first o (least (at d.line b))) (first_at d.line a) ∙ ap (or_first (at_line d.line (least_of a))) (first_at d.line b)

-- ---- whether the circle is told

pub told_alone : (r : Refusal) (found : Option Refusal) → is_told r found ≡ true → Some r ≡ or_first found (Some r)
told_alone r None e = refl
told_alone r (Some f) e = sym (ap (λ b. if b then Some r else Some f) e)

pub not_told : (r : Refusal) (found : Option Refusal) → is_told r found ≡ false → found ≡ or_first found (Some r)
not_told r None e = let no : true ≡ false = e in absurd (cc no)
not_told r (Some f) e = sym (ap (λ b. if b then Some r else Some f) e)

pub nothing_more : (found : Option Refusal) → found ≡ or_first found None
nothing_more None = refl
nothing_more (Some f) = refl

-- ---- second types

in_append : (as_ bs : List Name) (x : Name) → is_in (as_ ++ bs) x ≡ (is_in as_ x || is_in bs x)
in_append [] bs x = refl
in_append (a ∷ as_) bs x = elim (bytes_eq x a) as (λ b. (if b then true else is_in (as_ ++ bs) x) ≡ ((if b then true else is_in as_ x) || is_in bs x)) [ true ↦ refl | false ↦ in_append as_ bs x ]

in_front : (as_ : List Name) (y x : Name) → is_in (as_ ++ y ∷ []) x ≡ (if bytes_eq x y then true else is_in as_ x)
in_front as_ y x = in_append as_ (y ∷ []) x ∙ by (is_in as_ x) (bytes_eq x y)
  where
    by : (a b : Bool) → (a || (if b then true else false)) ≡ (if b then true else a)
    by true true = refl
    by true false = refl
    by false true = refl
    by false false = refl

here_itself : (n : ℕ) → (n == n + 0) ≡ true
here_itself n = grind (arith, nat_tests)

not_behind : (n k : ℕ) → (n == n + suc k) ≡ false
not_behind n k = grind (arith, nat_tests)

second_from : (n : ℕ) (as_ : List Name) (x : Name) (bs : List Name) → is_in as_ x ≡ not (is_place (n + length as_) (place_from n (as_ ++ x ∷ bs) x))
second_from n [] x bs =
    ap not (sym (here_itself n))
    ∙ ap (λ b. not (is_place (n + 0) (if b then Some n else place_from (n + 1) bs x))) (sym ((bytes_eq-Decides x x).1 refl))
second_from n (a ∷ as_) x bs = ap (λ b. if b then true else is_in as_ x) (same_turned x a) ∙ by (bytes_eq a x) (second_from (n + 1) as_ x bs)
  where
    next : n + 1 + length as_ ≡ n + suc (length as_)
    next = omega arith

    by : (b : Bool) → is_in as_ x ≡ not (is_place (n + 1 + length as_) (place_from (n + 1) (as_ ++ x ∷ bs) x)) → (if b then true else is_in as_ x) ≡ not (is_place (n + suc (length as_)) (if b then Some n else place_from (n + 1) (as_ ++ x ∷ bs) x))
    by true rest = ap not (sym (not_behind n (length as_)))
    by false rest = rest ∙ ap (λ k. not (is_place k (place_from (n + 1) (as_ ++ x ∷ bs) x))) next

-- with what is found, the types from a place on say what all say
abbrev pub TypesTold : Module → List TypeDef → ℕ → Option Refusal → Type 0
TypesTold m types i found =
    (before : List Name) × ((x : Name) → is_in before x ≡ is_in (map type_name (take i types)) x)
    × (or_first found (or_first (least (repeated before (map type_entry (drop i types)))) (least (flat_map (of_type m) (drop i types))))
    ≡ or_first (least (repeated [] (map type_entry types))) (least (flat_map (of_type m) types)))

pub place_is : (i : ℕ) (o : Option ℕ) → not (is_place i o) ≡ false → o ≡ Some i
place_is i None e = let no : true ≡ false = e in absurd (cc no)
place_is i (Some p) e = ap Some (same_number p i e)
  where
    same_number : (a b : ℕ) → not (a == b) ≡ false → a ≡ b
    same_number a b f = grind (arith, nat_tests)

pub all_told : (m : Module) (types : List TypeDef) (i : ℕ) (found : Option Refusal) → types ≡ m.types → length types ≤ i → TypesTold m types i found → found ≡ least (repeated [] (map type_entry m.types) ++ flat_map (of_type m) m.types)
all_told m types i found same end told =
    nothing_more found
    ∙ ap (λ l. or_first found (or_first (least (repeated told.0 (map type_entry l))) (least (flat_map (of_type m) l)))) (sym (drop_all i types end))
    ∙ told.2
    ∙ ap (λ l. or_first (least (repeated [] (map type_entry l))) (least (flat_map (of_type m) l))) same
    ∙ sym (first_append (repeated [] (map type_entry m.types)) (flat_map (of_type m) m.types))

-- ---- one type after another

module _ (m : Module) (i : ℕ) (d e : TypeDef) (low : i < length m.types) (is : e ≡ get_or m.types i d) where
  abbrev names : List Name
  names = map type_name m.types

  abbrev names_before : List Name
  names_before = map type_name (take i m.types)

  abbrev pub rest : List TypeDef
  rest = drop (i + 1) m.types

  from_here : drop i m.types ≡ e ∷ rest
  from_here = drop-cons m.types i d low ∙ ap (λ x. x ∷ drop (suc i) m.types) (sym is) ∙ ap (λ n. e ∷ drop n m.types) (sym (add-one i))

  all_names : names_before ++ e.name ∷ map type_name rest ≡ names
  all_names =
      ap (λ l. names_before ++ map type_name l) (sym from_here)
      ∙ sym (map-append type_name (take i m.types) (drop i m.types))
      ∙ ap (map type_name) (take-append-drop i m.types)

  count_before : 0 + length names_before ≡ i
  count_before = omega (arith, length-map (take i m.types) type_name, length-take-le i m.types (omega (arith, low)))

  pub second_type : (before : List Name) → ((x : Name) → is_in before x ≡ is_in names_before x) → is_in before e.name ≡ not (is_place i (place_in names e.name))
  second_type before same =
      same e.name
      ∙ second_from 0 names_before e.name (map type_name rest)
      ∙ ap (λ k. not (is_place k (place_in (names_before ++ e.name ∷ map type_name rest) e.name))) count_before
      ∙ ap (λ l. not (is_place i (place_in l e.name))) all_names

  pub one_before : (before : List Name) → ((x : Name) → is_in before x ≡ is_in names_before x) → (x : Name) → is_in (e.name ∷ before) x ≡ is_in (map type_name (take (i + 1) m.types)) x
  one_before before same x =
      ap (λ b. if bytes_eq x e.name then true else b) (same x)
      ∙ sym (in_front names_before e.name x)
      ∙ ap (λ l. is_in l x) (
      sym (map-append type_name (take i m.types) (e ∷ []))
      ∙ ap (λ t. map type_name (take i m.types ++ t ∷ [])) is
      ∙ ap (map type_name) (sym (take-suc m.types i d low))
      ∙ ap (λ k. map type_name (take k m.types)) (sym (add-one i)))

  -- what is found with one type more
  pub one_found : (before : List Name) (found : Option Refusal) (second circle : Bool) → second ≡ is_in before e.name → (second ≡ false → circle ≡ contains_itself m.types e) →
      or_first
      (if second
      then or_first (or_first found (least (if_second second e.line))) (at_line e.line (least_of (in_type m e.body)))
      else or_first (or_first (or_first found (least (if_second second e.line))) (at_line e.line (least_of (in_type m e.body)))) (at_line e.line (least_of (expects (not circle)))))
      (or_first (least (repeated (e.name ∷ before) (map type_entry rest))) (least (flat_map (of_type m) rest)))
      ≡ or_first found (or_first (least (repeated before (map type_entry (drop i m.types)))) (least (flat_map (of_type m) (drop i m.types))))
  one_found before found second circle which right =
      ap (λ o. or_first o (or_first r q)) (by second refl (λ h. right h))
      ∙ regroup found (least (if_second second e.line)) t b r q
      ∙ ap (λ o. or_first found (or_first o (or_first (or_first t b) q))) named
      ∙ ap (λ o. or_first found (or_first (least (repeated before (map type_entry (drop i m.types)))) o)) typed
    where
      t : Option Refusal
      t = at_line e.line (least_of (in_type m e.body))

      b : Option Refusal
      b = at_line e.line (least_of (expects (not (contains_itself m.types e))))

      r : Option Refusal
      r = least (repeated (e.name ∷ before) (map type_entry rest))

      q : Option Refusal
      q = least (flat_map (of_type m) rest)

      named : or_first (least (if_second second e.line)) r ≡ least (repeated before (map type_entry (drop i m.types)))
      named =
          ap (λ s. or_first (least (if_second s e.line)) r) which
          ∙ sym (first_append (if_second (is_in before e.name) e.line) (repeated (e.name ∷ before) (map type_entry rest)))
          ∙ ap (λ l. least (repeated before (map type_entry l))) (sym from_here)

      typed : or_first (or_first t b) q ≡ least (flat_map (of_type m) (drop i m.types))
      typed =
          ap (λ o. or_first o q) (sym (of_one m e))
          ∙ sym (first_append (of_type m e) (flat_map (of_type m) rest))
          ∙ ap (λ l. least (flat_map (of_type m) l)) (sym from_here)

      by : (s : Bool) → second ≡ s → (s ≡ false → circle ≡ contains_itself m.types e) →
          (if s then or_first (or_first found (least (if_second second e.line))) t else or_first (or_first (or_first found (least (if_second second e.line))) t) (at_line e.line (least_of (expects (not circle)))))
          ≡ or_first (or_first (or_first found (least (if_second second e.line))) t) b
      by true h same = absorbed found (least (if_second second e.line)) t b (ap (λ s. or_first (least (if_second s e.line)) b) h ∙ second_alone e.line (not (contains_itself m.types e)) ∙ ap (λ s. least (if_second s e.line)) (sym h))
      by false h same = ap (λ c. or_first (or_first (or_first found (least (if_second second e.line))) t) (at_line e.line (least_of (expects (not c))))) (same refl)

  -- what is told after one type more
  pub one_told : (found found' : Option Refusal) (second circle : Bool) → TypesTold m m.types i found → second ≡ not (is_place i (place_in names e.name)) → (second ≡ false → circle ≡ contains_itself m.types e) →
      found'
      ≡ (if second
      then or_first (or_first found (least (if_second second e.line))) (at_line e.line (least_of (in_type m e.body)))
      else or_first (or_first (or_first found (least (if_second second e.line))) (at_line e.line (least_of (in_type m e.body)))) (at_line e.line (least_of (expects (not circle))))) →
      TypesTold m m.types (i + 1) found'
  one_told found found' second circle told which right after = (
    e.name ∷ told.0,
    one_before told.0 told.1,
    ap (λ o. or_first o (or_first (least (repeated (e.name ∷ told.0) (map type_entry rest))) (least (flat_map (of_type m) rest)))) after
        ∙ one_found told.0 found second circle (which ∙ sym (second_type told.0 told.1)) right
        ∙ told.2,
  )
