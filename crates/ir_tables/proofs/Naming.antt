-- A table of names that grows by one name after another, and the names of functions.
use Rattle.std.proofs.Common.{◌≡◌, ℕ, zero, suc, ◌+◌, ◌<◌, List, [], ◌∷◌, ◌++◌, take, length, get_or, Option, Some, None, Bool, true, false, refl, sym, ap, ◌∙◌, subst, if◌then◌else◌, add-one, is_some, slice_get, Vec, Global, arith}
use Rattle.std.specs.Borrow.{Bor}
use Rattle.std.specs.Str.{bytes_eq}
use Rattle.std.proofs.Math.Seq.{take-suc}
use Rattle.std.proofs.lemmas.List.{map-append, length-map, length-take-le}
use Rattle.std.proofs.lemmas.Slice.Eq.{bytes_eq-Decides}
use Rattle.ir_core.specs.Places.{place_from, place_in, register_names_of, labels_of}
use Rattle.ir_core.specs.declared.module.Function.{Function}
use Rattle.ir_core.specs.declared.module.Module.{Module}
use Rattle.ir_tables.specs.declared.names.Locals.{Locals}
use Rattle.ir_tables.specs.declared.tables.Tables.{Tables}
use Rattle.ir_tables.specs.Indexed.{AreTables, MayHaveTables}
use Rattle.indexmap.specs.IndexMap.{IndexMap}
use Rattle.ir_tables.specs.Names.{names_seen, found_place, HasPlaces, AreLocals, AreAllLocals}
use Rattle.ir_tables.proofs.Places.{same_turned}

-- ---- one name more

abbrev pub first_of : Option ℕ → Option ℕ → Option ℕ
first_of None b = b
first_of (Some i) b = Some i

place_from-push : (n : ℕ) (ys : List (List ℕ)) (y x : List ℕ) → place_from n (ys ++ y ∷ []) x ≡ first_of (place_from n ys x) (if bytes_eq y x then Some (n + length ys) else None)
place_from-push n [] y x = ap (λ k. if bytes_eq y x then Some k else None) (omega arith)
place_from-push n (z ∷ ys) y x =
    elim (bytes_eq z x) as (λ b. (if b then Some n else place_from (n + 1) (ys ++ y ∷ []) x) ≡ first_of (if b then Some n else place_from (n + 1) ys x) (if bytes_eq y x then Some (n + length (z ∷ ys)) else None)) [
      | true ↦ refl
      | false ↦ place_from-push (n + 1) ys y x ∙ ap (λ k. first_of (place_from (n + 1) ys x) (if bytes_eq y x then Some k else None)) (omega arith)
    ]

length-seen : (names : List (Bor (List ℕ))) (n : ℕ) → n < length names → length (names_seen (take n names)) ≡ n
length-seen names n low = length-map (take n names) (λ (k : Bor (List ℕ)). k.now) ∙ length-take-le n names (omega (arith, low))

-- the place of a name among the names with one more
pub place_more : (names : List (Bor (List ℕ))) (at : ℕ) (d : Bor (List ℕ)) (x : List ℕ) → at < length names →
    place_in (names_seen (take (at + 1) names)) x ≡ first_of (place_in (names_seen (take at names)) x) (if bytes_eq x (get_or names at d).now then Some at else None)
place_more names at d x low =
    ap (λ n. place_in (names_seen (take n names)) x) (add-one at)
    ∙ ap (λ ns. place_in (names_seen ns) x) (take-suc names at d low)
    ∙ ap (λ ns. place_in ns x) (map-append (λ (n : Bor (List ℕ)). n.now) (take at names) (get_or names at d ∷ []))
    ∙ place_from-push 0 (names_seen (take at names)) (get_or names at d).now x
    ∙ ap (λ k. first_of (place_in (names_seen (take at names)) x) (if bytes_eq (get_or names at d).now x then Some k else None)) (omega (arith, length-seen names at low))
    ∙ ap (λ b. first_of (place_in (names_seen (take at names)) x) (if b then Some at else None)) (same_turned (get_or names at d).now x)

-- a name that the table has already
stays : (at : ℕ) (o mine : Option ℕ) (b : Bool) → (b ≡ true → mine ≡ o) → is_some mine ≡ true → o ≡ first_of o (if b then Some at else None)
stays at (Some i) mine b same held = refl
stays at None mine true same held = let f : true ≡ false = sym held ∙ ap is_some (same refl) in absurd (cc f)
stays at None mine false same held = refl

-- a name that it hasn't
comes : (at : ℕ) (o mine : Option ℕ) (b : Bool) → (b ≡ true → mine ≡ o) → is_some mine ≡ false → (if b then Some at else o) ≡ first_of o (if b then Some at else None)
comes at None mine true same held = refl
comes at None mine false same held = refl
comes at (Some i) mine true same held = let f : true ≡ false = sym (ap is_some (same refl)) ∙ held in absurd (cc f)
comes at (Some i) mine false same held = refl

module _ {S : Type 0} (names : List (Bor (List ℕ))) (at : ℕ) (d : Bor (List ℕ)) (table : IndexMap (Vec ℕ Global) ℕ S) (low : at < length names) (places : HasPlaces (names_seen (take at names)) table) (x : List ℕ) where
  abbrev name : List ℕ
  name = (get_or names at d).now

  same_place : bytes_eq x name ≡ true → found_place table name ≡ found_place table x
  same_place e = ap (found_place table) (sym ((bytes_eq-Decides x name).0 e))

  pub has_one_held : is_some (found_place table name) ≡ true → found_place table x ≡ place_in (names_seen (take (at + 1) names)) x
  has_one_held held =
      stays at (found_place table x) (found_place table name) (bytes_eq x name) same_place held
      ∙ ap (λ o. first_of o (if bytes_eq x name then Some at else None)) (places x)
      ∙ sym (place_more names at d x low)

  pub has_one_more : is_some (found_place table name) ≡ false → (if bytes_eq x name then Some at else found_place table x) ≡ place_in (names_seen (take (at + 1) names)) x
  has_one_more none =
      comes at (found_place table x) (found_place table name) (bytes_eq x name) same_place none
      ∙ ap (λ o. first_of o (if bytes_eq x name then Some at else None)) (places x)
      ∙ sym (place_more names at d x low)

-- ---- the names of functions

pub all_locals-push : (fs : List Function) (ls : List Locals) (f : Function) (l : Locals) → AreAllLocals fs ls → AreLocals f l → AreAllLocals (fs ++ f ∷ []) (ls ++ l ∷ [])
all_locals-push [] [] f l all one = (one, tt)
all_locals-push [] (k ∷ ls) f l all one = absurd all
all_locals-push (g ∷ fs) [] f l all one = absurd all
all_locals-push (g ∷ fs) (k ∷ ls) f l all one = (all.0, all_locals-push fs ls f l all.1 one)

-- the names of the functions so far, with those of one more
pub all_locals_more : (fs : List Function) (at : ℕ) (d f : Function) (ls new : List Locals) (l : Locals) → at < length fs → get_or fs at d ≡ f → AreAllLocals (take at fs) ls → AreLocals f l → new ≡ ls ++ l ∷ [] → AreAllLocals (take (at + 1) fs) new
all_locals_more fs at d f ls new l low here all one is =
    let more : take (at + 1) fs ≡ take at fs ++ f ∷ [] = ap (λ n. take n fs) (add-one at) ∙ take-suc fs at d low ∙ ap (λ g. take at fs ++ g ∷ []) here in
    subst (λ gs. AreAllLocals gs new) (sym more) (subst (AreAllLocals (take at fs ++ f ∷ [])) (sym is) (all_locals-push (take at fs) ls f l all one))

-- the names of the function at a place, where there is one
abbrev pub AreLocalsAt : Option Function → Option Locals → Type 0
AreLocalsAt None None = Unit {0}
AreLocalsAt None (Some l) = ⊥
AreLocalsAt (Some f) None = ⊥
AreLocalsAt (Some f) (Some l) = AreLocals f l

pub locals_at : (fs : List Function) (ls : List Locals) (at : ℕ) → AreAllLocals fs ls → AreLocalsAt (slice_get fs at) (slice_get ls at)
locals_at [] [] at all = tt
locals_at [] (k ∷ ls) at all = absurd all
locals_at (g ∷ fs) [] at all = absurd all
locals_at (g ∷ fs) (k ∷ ls) zero all = all.0
locals_at (g ∷ fs) (k ∷ ls) (suc at) all = locals_at fs ls at all.1

-- ---- what is found at a place

none_is : (o : Option Function) → AreLocalsAt o None → o ≡ None
none_is None at = refl
none_is (Some f) at = absurd at

pub registers_are : (o : Option Function) (l : Locals) (x : List ℕ) → AreLocalsAt o (Some l) → found_place l.registers x ≡ place_in (register_names_of o) x
registers_are None l x at = absurd at
registers_are (Some f) l x at = at.registers x

pub count_is : (o : Option Function) (l : Locals) → AreLocalsAt o (Some l) → l.count ≡ length (register_names_of o)
count_is None l at = absurd at
count_is (Some f) l at = at.count

pub blocks_are : (o : Option Function) (l : Locals) (x : List ℕ) → AreLocalsAt o (Some l) → found_place l.blocks x ≡ place_in (labels_of o) x
blocks_are None l x at = absurd at
blocks_are (Some f) l x at = at.blocks x

module _ (m n : Module) (o : Option Tables) (t : Tables) (may : MayHaveTables m o) (some : o ≡ Some t) (same : m ≡ n) (function : ℕ) where
  at_place : (l : Option Locals) → l ≡ slice_get t.locals function → AreLocalsAt (slice_get n.functions function) l
  at_place l e =
      let tables : AreTables n t = subst (λ k. AreTables k t) same (subst (MayHaveTables m) some may) in
      subst (AreLocalsAt (slice_get n.functions function)) (sym e) (locals_at n.functions t.locals function tables.locals)

  pub no_function : None ≡ slice_get t.locals function → slice_get n.functions function ≡ None
  no_function e = none_is (slice_get n.functions function) (at_place None e)

  pub function_locals : (l : Locals) → Some l ≡ slice_get t.locals function → AreLocalsAt (slice_get n.functions function) (Some l)
  function_locals l e = at_place (Some l) e
