-- No function has the name of an earlier one.
use Rattle.std.proofs.Common.{◌≡◌, ℕ, zero, suc, ◌+◌, List, [], ◌∷◌, ◌++◌, map, Some, Bool, true, false, nat_le, nat_lt, refl, sym, ap, ◌∙◌, if◌then◌else◌, arith}
use Rattle.std.specs.Prelude.{slice_get}
use Rattle.std.specs.List.{list_any}
use Rattle.std.specs.Str.{bytes_eq}
use Rattle.std.proofs.lemmas.Bool.Decides.{nat_tests}
use Rattle.std.proofs.lemmas.Option.{none-some, same_Some}
use Rattle.std.proofs.lemmas.Slice.Eq.{bytes_eq-Decides}
use Rattle.ir_core.specs.declared.refusal.Construct.TheVariants.{DuplicateName}
use Rattle.ir_core.specs.declared.module.Function.{Function}
use Rattle.ir_core.specs.NameRefusals.{at, repeated_by_line, is_behind, is_far_behind, is_second}
use Rattle.ir_core.specs.Places.{Name, place_from, function_name}
use Rattle.accepted_laws.specs.Accepted.{NamesArePlaces}
use Rattle.accepted_laws.proofs.Nothing.{not_both, something, front_none, back_none, any_at}
use Rattle.accepted_laws.proofs.Clean.{clean}

abbrev Entry : Type 0
Entry = Name × ℕ

abbrev entry : Function → Entry
entry f = (f.name, f.line)

-- ---- entries of which none is a second one

not_second : (before : List Entry) (n : Entry) (ns : List Entry) → repeated_by_line before (n ∷ ns) ≡ [] → is_second n before ns ≡ false
not_second before n ns e = by (is_second n before ns) (front_none (if is_second n before ns then at n.1 (DuplicateName ∷ []) else []) (repeated_by_line (n ∷ before) ns) e)
  where
    by : (b : Bool) → (if b then at n.1 (DuplicateName ∷ []) else []) ≡ [] → b ≡ false
    by true h = something _ _ h
    by false h = refl

others : (before : List Entry) (n : Entry) (ns : List Entry) → repeated_by_line before (n ∷ ns) ≡ [] → repeated_by_line (n ∷ before) ns ≡ []
others before n ns e = back_none (if is_second n before ns then at n.1 (DuplicateName ∷ []) else []) (repeated_by_line (n ∷ before) ns) e

second_left : (n : Entry) (before behind : List Entry) → list_any (is_behind n) before ≡ true → is_second n before behind ≡ true
second_left n before behind e = ap (λ b. if b then true else list_any (is_far_behind n) behind) e

second_right : (n : Entry) (before behind : List Entry) → list_any (is_far_behind n) behind ≡ true → is_second n before behind ≡ true
second_right n before behind e = by (list_any (is_behind n) before)
  where
    by : (b : Bool) → (if b then true else list_any (is_far_behind n) behind) ≡ true
    by true = refl
    by false = e

-- none of these is behind one that was before them
none_behind : (before ns : List Entry) (at_n at_k : ℕ) (n k : Entry) → repeated_by_line before ns ≡ [] → slice_get before at_n ≡ Some n → slice_get ns at_k ≡ Some k → is_behind k n ≡ true → {A : Type 0} → A
none_behind before [] at_n at_k n k e was is h = absurd (none-some k is)
none_behind before (l ∷ ls) at_n zero n k e was is h =
    let here = any_at (is_behind l) before at_n n was (ap (λ j. is_behind j n) (same_Some l k is) ∙ h) in
    not_both (is_second l before ls) (second_left l before ls here) (not_second before l ls e)
none_behind before (l ∷ ls) at_n (suc at_k) n k e was is h = none_behind (l ∷ before) ls (suc at_n) at_k n k (others before l ls e) was is h

-- none of these has the name of the first
apart : (before : List Entry) (n : Entry) (ns : List Entry) (place : ℕ) (k : Entry) → repeated_by_line before (n ∷ ns) ≡ [] → slice_get ns place ≡ Some k → n.0 ≡ k.0 → {A : Type 0} → A
apart before n ns place k e is same {A} = by (nat_lt k.1 n.1) refl
  where
    alike : bytes_eq n.0 k.0 ≡ true
    alike = (bytes_eq-Decides n.0 k.0).1 same

    turned : bytes_eq k.0 n.0 ≡ true
    turned = (bytes_eq-Decides k.0 n.0).1 (sym same)

    not_above : nat_lt k.1 n.1 ≡ false → nat_le n.1 k.1 ≡ true
    not_above h = grind (arith, nat_tests)

    by : (b : Bool) → nat_lt k.1 n.1 ≡ b → A
    by true h = not_both (is_second n before ns) (second_right n before ns (any_at (is_far_behind n) ns place k is (rw alike h))) (not_second before n ns e)
    by false h = none_behind (n ∷ before) ns 0 place n k (others before n ns e) refl is (rw turned (not_above h))

-- ---- functions

function_entry : (fs : List Function) (place : ℕ) (f : Function) → slice_get fs place ≡ Some f → slice_get (map entry fs) place ≡ Some (entry f)
function_entry [] place f is = absurd (none-some f is)
function_entry (g ∷ fs) zero f is = ap (λ h. Some (entry h)) (same_Some g f is)
function_entry (g ∷ fs) (suc place) f is = function_entry fs place f is

functions_apart : (n : ℕ) (before : List Entry) (fs : List Function) (place : ℕ) (f : Function) → repeated_by_line before (map entry fs) ≡ [] → slice_get fs place ≡ Some f → place_from n (map function_name fs) f.name ≡ Some (n + place)
functions_apart n before [] place f e is = absurd (none-some f is)
functions_apart n before (g ∷ fs) zero f e is =
    let same : bytes_eq g.name f.name ≡ true = (bytes_eq-Decides g.name f.name).1 (ap function_name (same_Some g f is)) in
    ap (λ b. if b then Some n else place_from (n + 1) (map function_name fs) f.name) same ∙ ap Some (omega arith)
functions_apart n before (g ∷ fs) (suc place) f e is = by (bytes_eq g.name f.name) refl (functions_apart (n + 1) (entry g ∷ before) fs place f (others before (entry g) (map entry fs) e) is)
  where
    by : (b : Bool) → bytes_eq g.name f.name ≡ b → place_from (n + 1) (map function_name fs) f.name ≡ Some (n + 1 + place) → (if b then Some n else place_from (n + 1) (map function_name fs) f.name) ≡ Some (n + suc place)
    by true h rest = apart before (entry g) (map entry fs) place (entry f) e (function_entry fs place f is) ((bytes_eq-Decides g.name f.name).0 h)
    by false h rest = rest ∙ ap Some (omega arith)

-- the entries behind some others
behind_others : (before as_ bs : List Entry) → repeated_by_line before (as_ ++ bs) ≡ [] → (more : List Entry) × (repeated_by_line more bs ≡ [])
behind_others before [] bs e = (before, e)
behind_others before (a ∷ as_) bs e = behind_others (a ∷ before) as_ bs (others before a (as_ ++ bs) e)

pub names_are_places : NamesArePlaces
names_are_places m e place f is =
    let b = behind_others [] (map (λ g. (g.name, g.line)) m.globals) (map entry m.functions) (clean m e).names in
    functions_apart 0 b.0 m.functions place f b.1 is ∙ ap Some (omega arith)
