-- Names that are given twice, by one name after another.
use Rattle.std.proofs.Common.{◌≡◌, ℕ, zero, suc, ◌+◌, ◌<◌, ◌≤◌, List, [], ◌∷◌, ◌++◌, map, length, take, get_or, Option, Some, Bool, true, false, refl, sym, ap, subst, ◌∙◌, if◌then◌else◌, add-one, append_assoc, arith}
use Rattle.std.proofs.Math.Seq.{take-suc}
use Rattle.std.proofs.lemmas.Bool.{lt-ltb, le-ltb}
use Rattle.std.proofs.lemmas.List.{append-nil, take-map, get_or-map, length-map}
use Rattle.std.specs.Borrow.{Bor}
use Rattle.std.specs.Str.{bytes_eq}
use Rattle.ir_core.specs.NameRefusals.{repeated, least}
use Rattle.ir_core.specs.Places.{Name, place_from, place_in}
use Rattle.ir_core.specs.Wrappers.{is_in}
use Rattle.ir_tables.proofs.Places.{same_turned}
use Rattle.name_tables.specs.declared.locals.Local.{Local}
use Rattle.name_tables.specs.Kept.{all_seen, kept_name}
use Rattle.name_tables.specs.Least.{or_first}
use Rattle.name_tables.specs.Repeated.{entry_name, kept_entry, is_second, if_second}
use Rattle.name_tables.proofs.RefusalLaws.{first_append}

-- ---- the names before a place

not_before : (n m : ℕ) (ys : List Name) (x : Name) → m ≤ n → is_second (place_from n ys x) m ≡ false
not_before n m [] x low = refl
not_before n m (y ∷ ys) x low =
    elim (bytes_eq y x) as (λ b. is_second (if b then Some n else place_from (n + 1) ys x) m ≡ false) [
      | true ↦ le-ltb n m low
      | false ↦ not_before (n + 1) m ys x (omega (arith, low))
    ]

-- a name is among the first ones where its first place is there
among_first : (n i : ℕ) (ys : List Name) (x : Name) → is_in (take i ys) x ≡ is_second (place_from n ys x) (n + i)
among_first n zero ys x = sym (not_before n (n + 0) ys x (omega arith))
among_first n (suc i) [] x = refl
among_first n (suc i) (y ∷ ys) x =
    ap (λ b. if b then true else is_in (take i ys) x) (same_turned x y)
    ∙ elim (bytes_eq y x) as (λ b. (if b then true else is_in (take i ys) x) ≡ is_second (if b then Some n else place_from (n + 1) ys x) (n + suc i)) [
      | true ↦ sym (lt-ltb n (n + suc i) (omega arith))
      | false ↦ among_first (n + 1) i ys x ∙ ap (is_second (place_from (n + 1) ys x)) (omega arith)
    ]

-- ---- a name more

abbrev Entry : Type 0
Entry = Name × ℕ

-- the names before the last one, the newest first
abbrev behind : List Entry → List Name → List Name
behind [] before = before
behind (e ∷ es) before = behind es (e.0 ∷ before)

either : (a b c : Bool) → (if a then true else (if b then true else c)) ≡ (if (if b then true else a) then true else c)
either true true c = refl
either true false c = refl
either false true c = refl
either false false c = refl

is_behind : (es : List Entry) (before : List Name) (x : Name) → is_in (behind es before) x ≡ (if is_in (map entry_name es) x then true else is_in before x)
is_behind [] before x = refl
is_behind (e ∷ es) before x =
    is_behind es (e.0 ∷ before) x
    ∙ either (is_in (map entry_name es) x) (bytes_eq x e.0) (is_in before x)

repeated-push : (before : List Name) (es : List Entry) (e : Entry) → repeated before (es ++ e ∷ []) ≡ repeated before es ++ if_second (is_in (behind es before) e.0) e.1
repeated-push before [] e = append-nil (if_second (is_in before e.0) e.1)
repeated-push before (f ∷ es) e =
    ap (λ l. if_second (is_in before f.0) f.1 ++ l) (repeated-push (f.0 ∷ before) es e)
    ∙ sym (append_assoc (if_second (is_in before f.0) f.1) (repeated (f.0 ∷ before) es) (if_second (is_in (behind es (f.0 ∷ before)) e.0) e.1))

map-take : (i : ℕ) (es : List Entry) → map entry_name (take i es) ≡ take i (map entry_name es)
map-take zero es = refl
map-take (suc i) [] = refl
map-take (suc i) (e ∷ es) = ap (λ l. e.0 ∷ l) (map-take i es)

or_not : (a : Bool) → (if a then true else false) ≡ a
or_not true = refl
or_not false = refl

-- the entries so far, with one more
pub repeated_more : (es : List Entry) (i : ℕ) (d : Entry) → i < length es → least (repeated [] (take (i + 1) es)) ≡ or_first (least (repeated [] (take i es))) (least (if_second (is_second (place_in (map entry_name es) (get_or es i d).0) i) (get_or es i d).1))
repeated_more es i d low =
    let e = get_or es i d in
    ap (λ n. least (repeated [] (take n es))) (add-one i)
    ∙ ap (λ l. least (repeated [] l)) (take-suc es i d low)
    ∙ ap least (repeated-push [] (take i es) e)
    ∙ first_append (repeated [] (take i es)) (if_second (is_in (behind (take i es) []) e.0) e.1)
    ∙ ap (λ b. or_first (least (repeated [] (take i es))) (least (if_second b e.1)))
    (is_behind (take i es) [] e.0
    ∙ or_not (is_in (map entry_name (take i es)) e.0)
    ∙ ap (λ ns. is_in ns e.0) (map-take i es)
    ∙ among_first 0 i (map entry_name es) e.0
    ∙ ap (is_second (place_in (map entry_name es) e.0)) (omega arith))

-- ---- the names of a function

abbrev Seen : Type 0
Seen = Bor (List ℕ) × ℕ × Local

abbrev seen_entry : Seen → Entry
seen_entry k = (k.0.now, k.1)

entries_are : (ks : List Seen) → map kept_entry (all_seen ks) ≡ map seen_entry ks
entries_are [] = refl
entries_are (k ∷ ks) = ap (λ es. seen_entry k ∷ es) (entries_are ks)

names_are : (ks : List Seen) → map entry_name (map seen_entry ks) ≡ map kept_name (all_seen ks)
names_are [] = refl
names_are (k ∷ ks) = ap (λ ns. k.0.now ∷ ns) (names_are ks)

-- the names so far, with one more
pub kept_more : (ks : List Seen) (i : ℕ) (d : Seen) (place : Name → Option ℕ) → i < length ks → ((x : Name) → place x ≡ place_in (map kept_name (all_seen ks)) x) →
    least (repeated [] (map kept_entry (all_seen (take (i + 1) ks)))) ≡ or_first (least (repeated [] (map kept_entry (all_seen (take i ks))))) (least (if_second (is_second (place (get_or ks i d).0.now) i) (get_or ks i d).1))
kept_more ks i d place low places =
    let es = map seen_entry ks in
    let here = get_or-map seen_entry ks i d (seen_entry d) low in
    ap (λ l. least (repeated [] l)) (entries_are (take (i + 1) ks) ∙ sym (take-map seen_entry (i + 1) ks))
    ∙ repeated_more es i (seen_entry d) (subst (λ n. i < n) (sym (length-map ks seen_entry)) low)
    ∙ ap (λ (e : Entry). or_first (least (repeated [] (take i es))) (least (if_second (is_second (place_in (map entry_name es) e.0) i) e.1))) here
    ∙ ap (λ ns. or_first (least (repeated [] (take i es))) (least (if_second (is_second (place_in ns (get_or ks i d).0.now) i) (get_or ks i d).1))) (names_are ks)
    ∙ ap (λ o. or_first (least (repeated [] (take i es))) (least (if_second (is_second o i) (get_or ks i d).1))) (sym (places (get_or ks i d).0.now))
    ∙ ap (λ l. or_first (least (repeated [] l)) (least (if_second (is_second (place (get_or ks i d).0.now) i) (get_or ks i d).1))) (take-map seen_entry i ks ∙ sym (entries_are (take i ks)))
