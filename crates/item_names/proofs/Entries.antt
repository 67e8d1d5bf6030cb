-- A list of entries, walked one after another.
use Rattle.std.proofs.Common.{◌≡◌, ℕ, ◌+◌, ◌<◌, List, [], ◌∷◌, ◌++◌, length, take, drop, get_or, Option, Some, Bool, true, false, ◌||◌, not, refl, sym, ap, ◌∙◌, if◌then◌else◌, arith, add-one, drop-cons}
use Rattle.std.proofs.Math.Bool.{or_comm}
use Rattle.std.proofs.Math.Seq.{take-suc}
use Rattle.std.proofs.lemmas.List.{map-append, length-map, length-take-le, take-append-drop}
use Rattle.std.proofs.lemmas.List.Folds.{list_any-append}
use Rattle.std.proofs.lemmas.Slice.Eq.{bytes_eq-Decides}
use Rattle.std.specs.Borrow.{Bor}
use Rattle.std.specs.List.{list_any}
use Rattle.std.specs.Str.{bytes_eq}
use Rattle.ir_core.specs.declared.refusal.Refusal.{Refusal}
use Rattle.ir_core.specs.Places.{Name}
use Rattle.ir_core.specs.NameRefusals.{least, repeated_by_line, is_behind, is_second}
use Rattle.name_tables.specs.Least.{or_first}
use Rattle.name_tables.proofs.RefusalLaws.{first_append, or_first-assoc}
use Rattle.name_tables.specs.Repeated.{if_second}
use Rattle.item_names.specs.Repeated.{entry_seen, entries_seen, sooner, earliest_from, is_earliest}
use Rattle.ir_tables.proofs.Places.{same_turned}
use Rattle.item_names.proofs.ByLine.{second_between}

abbrev pub Slice : Type 0
Slice = Bor (List ℕ) × ℕ

abbrev pub no_entry : Slice
no_entry = (record { ref_ptr = (0, 0); now = [] }, 0)

module _ (es : List Slice) (i : ℕ) (d : Slice) (low : i < length es) where
  abbrev pub here : Name × ℕ
  here = entry_seen (get_or es i d)

  abbrev pub rest : List (Name × ℕ)
  rest = entries_seen (drop (i + 1) es)

  from_here : entries_seen (drop i es) ≡ here ∷ rest
  from_here = ap entries_seen (drop-cons es i d low) ∙ ap (λ n. here ∷ entries_seen (drop n es)) (sym (add-one i))

  -- the table with one entry more in front
  pub with_front : (n : ℕ) (x : Name) (value : ℕ × ℕ) → n ≡ i + 1 → value ≡ sooner (i, here.1) (earliest_from n (entries_seen (drop n es)) here.0) →
      (if bytes_eq x here.0 then Some value else earliest_from n (entries_seen (drop n es)) x) ≡ earliest_from i (entries_seen (drop i es)) x
  with_front n x value next is = by (bytes_eq x here.0) refl ∙ ap (λ b. if b then Some (sooner (i, here.1) (earliest_from (i + 1) rest x)) else earliest_from (i + 1) rest x) turned ∙ ap (λ l. earliest_from i l x) (sym from_here)
    where
      turned : bytes_eq x here.0 ≡ bytes_eq here.0 x
      turned = same_turned x here.0

      whole : earliest_from n (entries_seen (drop n es)) x ≡ earliest_from (i + 1) rest x
      whole = ap (λ k. earliest_from k (entries_seen (drop k es)) x) next

      by : (b : Bool) → bytes_eq x here.0 ≡ b → (if b then Some value else earliest_from n (entries_seen (drop n es)) x) ≡ (if b then Some (sooner (i, here.1) (earliest_from (i + 1) rest x)) else earliest_from (i + 1) rest x)
      by true e = ap Some (is ∙ ap (λ k. sooner (i, here.1) (earliest_from k (entries_seen (drop k es)) here.0)) next ∙ ap (λ y. sooner (i, here.1) (earliest_from (i + 1) rest y)) (sym ((bytes_eq-Decides x here.0).0 e)))
      by false e = whole

  count_before : length (entries_seen (take i es)) ≡ i
  count_before = length-map (take i es) entry_seen ∙ length-take-le i es (omega (arith, low))

  all_entries : entries_seen (take i es) ++ here ∷ rest ≡ entries_seen es
  all_entries =
      ap (λ l. entries_seen (take i es) ++ l) (sym from_here)
      ∙ sym (map-append entry_seen (take i es) (drop i es))
      ∙ ap entries_seen (take-append-drop i es)

  second_here : (before : List (Name × ℕ)) → ((n : Name × ℕ) → list_any (is_behind n) before ≡ list_any (is_behind n) (entries_seen (take i es))) → is_second here before rest ≡ not (is_earliest i (earliest_from 0 (entries_seen es) here.0))
  second_here before same =
      second_between here (entries_seen (take i es)) rest before (same here)
      ∙ ap (λ k. not (is_earliest k (earliest_from 0 (entries_seen (take i es) ++ here ∷ rest) here.0))) count_before
      ∙ ap (λ l. not (is_earliest i (earliest_from 0 l here.0))) all_entries

  pub one_before : (before : List (Name × ℕ)) → ((n : Name × ℕ) → list_any (is_behind n) before ≡ list_any (is_behind n) (entries_seen (take i es))) → (n : Name × ℕ) → list_any (is_behind n) (here ∷ before) ≡ list_any (is_behind n) (entries_seen (take (i + 1) es))
  one_before before same n =
      or_comm (is_behind n here) (list_any (is_behind n) before)
      ∙ ap (λ b. b || is_behind n here) (same n)
      ∙ ap (λ b. list_any (is_behind n) (entries_seen (take i es)) || b) (or_nothing (is_behind n here))
      ∙ sym (list_any-append (is_behind n) (entries_seen (take i es)) (here ∷ []))
      ∙ ap (list_any (is_behind n)) (sym (map-append entry_seen (take i es) (get_or es i d ∷ [])))
      ∙ ap (λ l. list_any (is_behind n) (entries_seen l)) (sym (take-suc es i d low))
      ∙ ap (λ k. list_any (is_behind n) (entries_seen (take k es))) (sym (add-one i))
    where
      or_nothing : (b : Bool) → b ≡ (b || false)
      or_nothing true = refl
      or_nothing false = refl

  -- what is found with one entry more
  pub one_found : (before : List (Name × ℕ)) (found : Option Refusal) (second : Bool) → ((n : Name × ℕ) → list_any (is_behind n) before ≡ list_any (is_behind n) (entries_seen (take i es))) → second ≡ not (is_earliest i (earliest_from 0 (entries_seen es) here.0)) →
      or_first (or_first found (least (if_second second here.1))) (least (repeated_by_line (here ∷ before) rest)) ≡ or_first found (least (repeated_by_line before (entries_seen (drop i es))))
  one_found before found second same is =
      or_first-assoc found (least (if_second second here.1)) (least (repeated_by_line (here ∷ before) rest))
      ∙ ap (λ b. or_first found (or_first (least (if_second b here.1)) (least (repeated_by_line (here ∷ before) rest)))) (is ∙ sym (second_here before same))
      ∙ ap (or_first found) (sym (first_append (if_second (is_second here before rest) here.1) (repeated_by_line (here ∷ before) rest)))
      ∙ ap (λ l. or_first found (least (repeated_by_line before l))) (sym from_here)
