-- A table that grows is right, and one that can't grow is whole.
use Rattle.std.proofs.Common.{◌≡◌, ℕ, zero, suc, ◌+◌, ◌-◌, ◌<◌, ◌≤◌, List, [], ◌∷◌, ◌++◌, length, get_or, Option, Some, None, option_map, Bool, true, false, refl, sym, ap, ◌∙◌, subst, arith, ◌⊎◌, inl, inr, ◌≢◌, ◌||◌}
use Rattle.std.specs.Prelude.{option_and_then, slice_get, slice_set}
use Rattle.std.proofs.lemmas.Option.{none-some, same_Some, slice_get_within, slice_get-get_or, slice_get_past}
use Rattle.std.proofs.lemmas.Bool.{cases_eq, cases_lt}
use Rattle.ir_core.specs.declared.types.Ty.{Ty, out-Ty, map-Ty, fold_out-Ty}
use Rattle.ir_core.specs.declared.types.Ty.TheOpen.{Ty-F}
use Rattle.ir_core.specs.declared.module.TypeDef.{TypeDef}
use Rattle.ir_core.specs.Layout.{Layout, NoParts, layer_layout, named_layout, named_parts, layer_parts, body_parts, body_of}
use Rattle.ir_tables.specs.declared.laid.Laid.{Laid}
use Rattle.ir_tables.specs.declared.table.Known.{Known}
use Rattle.ir_tables.specs.declared.table.Table.{Table}
use Rattle.ir_tables.specs.Laid.{Keeps, AreKept, laid_of, layer_laid}
use Rattle.ir_tables.specs.Table.{body_at, ArePlaces, place_of, known_at, known_of, known_laid, end_or, layer_end, found_at, own_parts, Knows, KnowsAll, IsTable, count, open_in, is_open, IsSound, IsSettled, LaysOut, Grows}
use Rattle.ir_tables.proofs.Deeper.{Extends, Implies, layout_by, extended, deeper}
use Rattle.ir_tables.proofs.Kept.{kept}

-- ---- how many are known

pub count-le : (known : List (Option Known)) → count known ≤ length known
count-le [] = omega arith
count-le (None ∷ known) = omega (arith, count-le known)
count-le (Some k ∷ known) = omega (arith, count-le known)

pub count-set : (known : List (Option Known)) (at : ℕ) (k : Known) → slice_get known at ≡ Some None → count (slice_set known at (Some k)) ≡ suc (count known)
count-set [] at k e = absurd (none-some None e)
count-set (None ∷ known) zero k e = refl
count-set (Some j ∷ known) zero k e = absurd (none-some j (sym (same_Some (Some j) None e)))
count-set (None ∷ known) (suc at) k e = count-set known at k e
count-set (Some j ∷ known) (suc at) k e = ap suc (count-set known at k e)

pub length-set : (known : List (Option Known)) (at : ℕ) (o : Option Known) → length (slice_set known at o) ≡ length known
length-set [] at o = refl
length-set (k ∷ known) zero o = refl
length-set (k ∷ known) (suc at) o = ap suc (length-set known at o)

at_set : (known : List (Option Known)) (at : ℕ) (o k : Option Known) → slice_get known at ≡ Some k → known_at (slice_set known at o) at ≡ o
at_set [] at o k e = absurd (none-some k e)
at_set (j ∷ known) zero o k e = refl
at_set (j ∷ known) (suc at) o k e = at_set known at o k e

apart_set : (known : List (Option Known)) (at other : ℕ) (o : Option Known) → (other ≡ at → ⊥) → known_at (slice_set known at o) other ≡ known_at known other
apart_set [] at other o apart = refl
apart_set (j ∷ known) zero zero o apart = absurd (apart refl)
apart_set (j ∷ known) zero (suc other) o apart = refl
apart_set (j ∷ known) (suc at) zero o apart = refl
apart_set (j ∷ known) (suc at) (suc other) o apart = apart_set known at other o (λ e. apart (ap suc e))

-- ---- what is known of names gives what is known of a body

-- layouts where the table has the name
abbrev only_known : Option Known → Option Layout → Option Layout
only_known None o = None
only_known (Some k) o = o

module _ (types : List TypeDef) (table : Table) (depth : ℕ) (right : (x : List ℕ) (k : Known) → known_of table x ≡ Some k → Knows types depth x k) where
  abbrev pub known_layout : List ℕ → Option Layout
  known_layout x = only_known (known_of table x) (named_layout depth types x)

  one_kept : (x : List ℕ) (o : Option Known) → known_of table x ≡ o → AreKept (option_map (λ (k : Known). k.laid) o) (only_known o (named_layout depth types x))
  one_kept x None e = tt
  one_kept x (Some k) e = let r = right x k e in subst (AreKept (Some k.laid)) (sym r.1) r.2

  known_kept : (t : Ty) → AreKept (laid_of (known_laid table) t) (layout_by known_layout t)
  known_kept = kept (known_laid table) known_layout (λ x. one_kept x (known_of table x) refl)

  one_within : (x : List ℕ) (o : Option Known) → Implies (only_known o (named_layout depth types x)) (named_layout depth types x)
  one_within x None l e = absurd (none-some l e)
  one_within x (Some k) l e = e

  known_within : Extends known_layout (named_layout depth types)
  known_within x = one_within x (known_of table x)

  has_layout : (t : Ty) (laid : Laid) (o : Option Laid) (p : Option Layout) → o ≡ Some laid → AreKept o p → (l : Layout) × (p ≡ Some l) × Keeps laid l
  has_layout t laid None p e k = absurd (none-some laid e)
  has_layout t laid (Some a) None e k = absurd k
  has_layout t laid (Some a) (Some l) e k = (l, refl, subst (λ b. Keeps b l) (same_Some a laid e) k)

  -- what is found of a type is kept of its layout
  pub laid_right : (t : Ty) (laid : Laid) → laid_of (known_laid table) t ≡ Some laid → (l : Layout) × (layout_by (named_layout depth types) t ≡ Some l) × Keeps laid l
  laid_right t laid e =
      let h = has_layout t laid (laid_of (known_laid table) t) (layout_by known_layout t) e (known_kept t) in
      (h.0, extended known_layout (named_layout depth types) known_within t h.0 h.1, h.2)

  -- and where its parts are
  parts_by : (at : ℕ) (t : Ty) (laid : Laid) → body_at types at ≡ Some t → laid_of (known_laid table) t ≡ Some laid → (y : Ty-F Ty) → out-Ty t ≡ y → layer_parts (named_parts depth types) y ≡ own_parts (body_at types (layer_end table at y))
  parts_by at t laid here e Ty-F.Void is = sym (ap own_parts here ∙ ap (layer_parts (λ x. NoParts)) is)
  parts_by at t laid here e (Ty-F.Int width) is = sym (ap own_parts here ∙ ap (layer_parts (λ x. NoParts)) is)
  parts_by at t laid here e Ty-F.Ptr is = sym (ap own_parts here ∙ ap (layer_parts (λ x. NoParts)) is)
  parts_by at t laid here e (Ty-F.Array n item) is = sym (ap own_parts here ∙ ap (layer_parts (λ x. NoParts)) is)
  parts_by at t laid here e (Ty-F.Struct fields) is = sym (ap own_parts here ∙ ap (layer_parts (λ x. NoParts)) is)
  parts_by at t laid here e (Ty-F.Named x) is = by (known_of table x) refl
    where
      named : known_laid table x ≡ Some laid
      named = ap (λ y. layer_laid (known_laid table) (map-Ty Ty (Option Laid) (laid_of (known_laid table)) y)) (sym is) ∙ sym (fold_out-Ty (Option Laid) (layer_laid (known_laid table)) t) ∙ e

      by : (o : Option Known) → known_of table x ≡ o → named_parts depth types x ≡ own_parts (body_at types (end_or at (known_of table x)))
      by None q = absurd (none-some laid (ap (option_map (λ (k : Known). k.laid)) (sym q) ∙ named))
      by (Some k) q = (right x k q).3 ∙ ap (λ o. own_parts (body_at types (end_or at o))) (sym q)

  opened : (o : Option Laid) (end : ℕ) (k : Known) → option_map (λ (laid : Laid). record { laid = laid; end = end }) o ≡ Some k → (o ≡ Some k.laid) × (end ≡ k.end)
  opened None end k e = absurd (none-some k e)
  opened (Some a) end k e = let same = same_Some (record { laid = a; end = end }) k e in (ap (λ (j : Known). Some j.laid) same, ap (λ (j : Known). j.end) same)

  -- what is found of a type is known one deeper of its name
  pub found_right : (at : ℕ) (t : Ty) (k : Known) (x : List ℕ) → body_at types at ≡ Some t → found_at table at t ≡ Some k → body_of types x ≡ Some t → Knows types (suc depth) x k
  found_right at t k x here e is =
      let parts = opened (laid_of (known_laid table) t) (layer_end table at (out-Ty t)) k e in
      let layout = laid_right t k.laid parts.0 in (
        layout.0,
        ap (option_and_then (layout_by (named_layout depth types))) is ∙ layout.1,
        layout.2,
        ap (body_parts (named_parts depth types)) is ∙ parts_by at t k.laid here parts.0 (out-Ty t) refl ∙ ap (λ n. own_parts (body_at types n)) parts.1,
      )

-- ---- deeper

module _ (types : List TypeDef) where
  layer_deeper : (depth : ℕ) (t : Ty) (l : Layout) → layout_by (named_layout depth types) t ≡ Some l → ((x : List ℕ) → named_layout depth types x ≡ Some l → named_parts (suc depth) types x ≡ named_parts depth types x) →
      (y : Ty-F Ty) → out-Ty t ≡ y → layer_parts (named_parts (suc depth) types) y ≡ layer_parts (named_parts depth types) y
  layer_deeper depth t l e below Ty-F.Void is = refl
  layer_deeper depth t l e below (Ty-F.Int width) is = refl
  layer_deeper depth t l e below Ty-F.Ptr is = refl
  layer_deeper depth t l e below (Ty-F.Array n item) is = refl
  layer_deeper depth t l e below (Ty-F.Struct fields) is = refl
  layer_deeper depth t l e below (Ty-F.Named x) is =
      below x (ap (λ y. layer_layout (named_layout depth types) (map-Ty Ty (Option Layout) (layout_by (named_layout depth types)) y)) (sym is) ∙ sym (fold_out-Ty (Option Layout) (layer_layout (named_layout depth types)) t) ∙ e)

  body_deeper : (depth : ℕ) (l : Layout) → ((x : List ℕ) → named_layout depth types x ≡ Some l → named_parts (suc depth) types x ≡ named_parts depth types x) → (o : Option Ty) → option_and_then (layout_by (named_layout depth types)) o ≡ Some l → body_parts (named_parts (suc depth) types) o ≡ body_parts (named_parts depth types) o
  body_deeper depth l below None e = refl
  body_deeper depth l below (Some t) e = layer_deeper depth t l e below (out-Ty t) refl

  parts_one_deeper : (depth : ℕ) (x : List ℕ) (l : Layout) → named_layout depth types x ≡ Some l → named_parts (suc depth) types x ≡ named_parts depth types x
  parts_one_deeper zero x l e = absurd (none-some l e)
  parts_one_deeper (suc depth) x l e = body_deeper depth l (λ y. parts_one_deeper depth y l) (body_of types x) e

  parts_more_deep : (more depth : ℕ) (x : List ℕ) (l : Layout) → named_layout depth types x ≡ Some l → named_parts (more + depth) types x ≡ named_parts depth types x
  parts_more_deep zero depth x l e = let same : 0 + depth ≡ depth = omega arith in ap (λ n. named_parts n types x) same
  parts_more_deep (suc more) depth x l e =
      let same : suc more + depth ≡ suc (more + depth) = omega arith in
      ap (λ n. named_parts n types x) same ∙ parts_one_deeper (more + depth) x l (deeper types depth (more + depth) (omega arith) x l e) ∙ parts_more_deep more depth x l e

  pub Knows-deeper : (low high : ℕ) (x : List ℕ) (k : Known) → low ≤ high → Knows types low x k → Knows types high x k
  Knows-deeper low high x k h w =
      let same : high - low + low ≡ high = omega arith in
      (w.0, deeper types low high h x w.0 w.1, w.2, ap (λ n. named_parts n types x) (sym same) ∙ parts_more_deep (high - low) low x w.0 w.1 ∙ w.3)

-- ---- a table that grows

module _ (types : List TypeDef) (old : Table) (at : ℕ) (t : Ty) (k : Known) (sound : IsSound types old) (here : body_at types at ≡ Some t) (free : slice_get old.known at ≡ Some None) (found : found_at old at t ≡ Some k) where
  abbrev grown : Table
  grown = record old { known = slice_set old.known at (Some k) }

  right_of : (x : List ℕ) (j : Known) (o : Option ℕ) → place_of old.places x ≡ o → option_and_then (known_at grown.known) o ≡ Some j → Knows types (suc (count old.known)) x j
  right_of x j None is e = absurd (none-some j e)
  right_of x j (Some i) is e = by (cases_eq i at)
    where
      by : (i ≡ at) ⊎ (i ≡ at → ⊥) → Knows types (suc (count old.known)) x j
      by (inl same) =
          let mine : Some k ≡ Some j = sym (at_set old.known at (Some k) None free) ∙ ap (known_at grown.known) (sym same) ∙ e in
          let body : body_of types x ≡ Some t = sound.places x ∙ ap (option_and_then (body_at types)) is ∙ ap (body_at types) same ∙ here in
          subst (Knows types (suc (count old.known)) x) (same_Some k j mine) (found_right types old (count old.known) sound.right at t k x here found body)
      by (inr other) =
          let was : known_of old x ≡ Some j = ap (option_and_then (known_at old.known)) is ∙ sym (apart_set old.known at i (Some k) other) ∙ e in
          Knows-deeper types (count old.known) (suc (count old.known)) x j (omega arith) (sound.right x j was)

  grown_sound : IsSound types grown
  grown_sound = record {
    places = sound.places;
    size = length-set old.known at (Some k) ∙ sound.size;
    right = λ x j e. subst (λ n. Knows types n x j) (sym (count-set old.known at k free)) (right_of x j (place_of old.places x) refl e);
  }

-- a type more keeps a table right
pub sound_after : (types : List TypeDef) (old new : Table) (at : ℕ) (b : Bool) → LaysOut types old new at b → IsSound types old → IsSound types new
sound_after types old new at true w sound = subst (IsSound types) (sym w.5) (grown_sound types old at w.0 w.1 sound w.2 w.3 w.4)
sound_after types old new at false w sound = subst (IsSound types) (sym w.0) sound

-- ---- one place after another

pub count-push : (known : List (Option Known)) → count (known ++ None ∷ []) ≡ count known
count-push [] = refl
count-push (None ∷ known) = count-push known
count-push (Some k ∷ known) = ap suc (count-push known)

none_known : (known : List (Option Known)) (at : ℕ) → count known ≡ 0 → known_at known at ≡ None
none_known [] at none = refl
none_known (None ∷ known) zero none = refl
none_known (None ∷ known) (suc at) none = none_known known at none
none_known (Some k ∷ known) at none = absurd (omega arith)

-- a table without a type that is laid out
pub sound_first : (types : List TypeDef) (table : Table) → ArePlaces types table.places → length table.known ≡ length types → count table.known ≡ 0 → IsSound types table
sound_first types table places size none = record {
  places = places;
  size = size;
  right = λ x k e. absurd (none-some k (sym (nothing (place_of table.places x)) ∙ e));
}
  where
    nothing : (o : Option ℕ) → option_and_then (known_at table.known) o ≡ None
    nothing None = refl
    nothing (Some at) = none_known table.known at none

-- where nothing is open nothing is left
pub settled_absent : (types : List TypeDef) (table : Table) (at : ℕ) → slice_get types at ≡ None → IsSettled types table at
settled_absent types table at none t here free = absurd (none-some t (sym (ap (option_map (λ (d : TypeDef). d.body)) none) ∙ here))

pub settled_closed : (types : List TypeDef) (table : Table) (at : ℕ) → is_open table.known at ≡ false → IsSettled types table at
settled_closed types table at closed t here free = let is : true ≡ false = sym (ap open_in free) ∙ closed in let f : ⊥ = cc in absurd f

unmapped : (o : Option Laid) (end : ℕ) → option_map {U = Known} (λ (laid : Laid). record { laid = laid; end = end }) o ≡ None → o ≡ None
unmapped None end e = refl
unmapped (Some a) end e = absurd (none-some {A = Known} (record { laid = a; end = end }) (sym e))

open_is : (o : Option (Option Known)) → open_in o ≡ true → o ≡ Some None
open_is None e = let f : ⊥ = cc in absurd f
open_is (Some None) e = refl
open_is (Some (Some k)) e = let f : ⊥ = cc in absurd f

pub is_free_at : (known : List (Option Known)) (at : ℕ) → is_open known at ≡ true → slice_get known at ≡ Some None
is_free_at known at e = open_is (slice_get known at) e

pub settled_ill : (types : List TypeDef) (table : Table) (at : ℕ) (t : Ty) → body_at types at ≡ Some t → found_at table at t ≡ None → IsSettled types table at
settled_ill types table at t is none u here free =
    let same : t ≡ u = same_Some t u (sym is ∙ here) in
    subst (λ v. laid_of (known_laid table) v ≡ None) same (unmapped (laid_of (known_laid table) t) (layer_end table at (out-Ty t)) none)

-- what the first places up to one have given, and whether a type was laid out there
abbrev pub GrowsUpTo : List TypeDef → ℕ → Table → Table → Bool → Type 0
GrowsUpTo types upto old new true = count old.known < count new.known
GrowsUpTo types upto old new false = (new ≡ old) × ((at : ℕ) → at < upto → IsSettled types old at)

-- a place more
pub grows_more : (types : List TypeDef) (at : ℕ) (old now new : Table) (some one : Bool) → GrowsUpTo types at old now some → LaysOut types now new at one → GrowsUpTo types (at + 1) old new (some || one)
grows_more types at old now new true true grows lays = let more = ap (λ (t : Table). count t.known) lays.5 ∙ count-set now.known at lays.1 lays.3 in omega arith
grows_more types at old now new true false grows lays = let same = ap (λ (t : Table). count t.known) lays.0 in omega arith
grows_more types at old now new false true grows lays =
    let more = ap (λ (t : Table). count t.known) lays.5 ∙ count-set now.known at lays.1 lays.3 in
    let same = ap (λ (t : Table). count t.known) grows.0 in
    omega arith
grows_more types at old now new false false grows lays = (lays.0 ∙ grows.0, λ i low. by i (cases_eq i at) low)
  where
    by : (i : ℕ) → (i ≡ at) ⊎ (i ≡ at → ⊥) → i < at + 1 → IsSettled types old i
    by i (inl same) low = subst (IsSettled types old) (sym same) (subst (λ t. IsSettled types t at) grows.0 lays.1)
    by i (inr other) low = grows.1 i (let apart : i ≢ at = other in omega arith)

pub grows_all : (types : List TypeDef) (old new : Table) (some : Bool) → GrowsUpTo types (length types) old new some → Grows types old new some
grows_all types old new true grows = grows
grows_all types old new false grows = (grows.0, λ at. by at (cases_lt at (length types)))
  where
    by : (at : ℕ) → (at < length types) ⊎ (length types ≤ at) → IsSettled types old at
    by at (inl low) = grows.1 at low
    by at (inr past) = settled_absent types old at (slice_get_past types at past)

-- ---- a table that can't grow

module _ (types : List TypeDef) (table : Table) (sound : IsSound types table) (settled : (at : ℕ) → IsSettled types table at) where
  same_layout : (depth : ℕ) (x : List ℕ) (k : Known) (l : Layout) → known_of table x ≡ Some k → named_layout depth types x ≡ Some l → named_layout (count table.known) types x ≡ Some l
  same_layout depth x k l is e =
      let w = sound.right x k is in
      let high = depth + count table.known in
      let one = deeper types depth high (omega arith) x l e in
      let two = deeper types (count table.known) high (omega arith) x w.0 w.1 in
      w.1 ∙ sym two ∙ one

  known_extends : (depth : ℕ) → ((x : List ℕ) → known_of table x ≡ None → named_layout depth types x ≡ None) → Extends (named_layout depth types) (known_layout types table (count table.known) sound.right)
  known_extends depth none x l e = by (known_of table x) refl
    where
      by : (o : Option Known) → known_of table x ≡ o → only_known (known_of table x) (named_layout (count table.known) types x) ≡ Some l
      by None is = absurd (none-some l (sym (none x is) ∙ e))
      by (Some k) is = ap (λ o. only_known o (named_layout (count table.known) types x)) is ∙ same_layout depth x k l is e

  body_none : (depth : ℕ) (t : Ty) → ((x : List ℕ) → known_of table x ≡ None → named_layout depth types x ≡ None) → laid_of (known_laid table) t ≡ None → (o : Option Layout) → layout_by (named_layout depth types) t ≡ o → o ≡ None
  body_none depth t none free None e = refl
  body_none depth t none free (Some l) e =
      let has = extended (named_layout depth types) (known_layout types table (count table.known) sound.right) (known_extends depth none) t l e in
      absurd (subst (λ o. AreKept o (Some l)) free (subst (AreKept (laid_of (known_laid table) t)) has (known_kept types table (count table.known) sound.right t)))

  is_free : (at : ℕ) (t : Ty) → body_at types at ≡ Some t → known_at table.known at ≡ None → slice_get table.known at ≡ Some None
  is_free at t here free = by (slice_get table.known at) refl free
    where
      inside : (o : Option TypeDef) → slice_get types at ≡ o → option_map (λ (d : TypeDef). d.body) o ≡ Some t → at < length table.known
      inside None e is = absurd (none-some t is)
      inside (Some d) e is = let low = slice_get_within types at d e in let size = sound.size in omega arith

      by : (o : Option (Option Known)) → slice_get table.known at ≡ o → option_and_then (λ (p : Option Known). p) o ≡ None → slice_get table.known at ≡ Some None
      by None e is = absurd (none-some (get_or table.known at None) (sym e ∙ slice_get-get_or table.known at None (inside (slice_get types at) refl here)))
      by (Some None) e is = e
      by (Some (Some k)) e is = absurd (none-some k (sym is))

  at_none : (depth : ℕ) (at : ℕ) → ((x : List ℕ) → known_of table x ≡ None → named_layout depth types x ≡ None) → known_at table.known at ≡ None → (o : Option Ty) → body_at types at ≡ o → option_and_then (layout_by (named_layout depth types)) o ≡ None
  at_none depth at none free None e = refl
  at_none depth at none free (Some t) e = body_none depth t none (settled at t e (is_free at t e free)) (layout_by (named_layout depth types) t) refl

  place_none : (depth : ℕ) → ((x : List ℕ) → known_of table x ≡ None → named_layout depth types x ≡ None) → (o : Option ℕ) → option_and_then (known_at table.known) o ≡ None → option_and_then (layout_by (named_layout depth types)) (option_and_then (body_at types) o) ≡ None
  place_none depth none None free = refl
  place_none depth none (Some at) free = at_none depth at none free (body_at types at) refl

  -- a name that isn't known has no layout
  not_known : (depth : ℕ) (x : List ℕ) → known_of table x ≡ None → named_layout depth types x ≡ None
  not_known zero x free = refl
  not_known (suc depth) x free = ap (option_and_then (layout_by (named_layout depth types))) (sound.places x) ∙ place_none depth (not_known depth) (place_of table.places x) free

  known_all : (x : List ℕ) (o : Option Known) → known_of table x ≡ o → KnowsAll types (length types) x o
  known_all x None is = not_known (length types) x is
  known_all x (Some k) is = Knows-deeper types (count table.known) (length types) x k (let fit = count-le table.known in let size = sound.size in omega arith) (sound.right x k is)

  pub whole : IsTable types table
  whole x = known_all x (known_of table x) refl
