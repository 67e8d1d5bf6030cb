-- An entry is a second one by line where it doesn't stand at the earliest place of its name.
use Rattle.std.proofs.Common.{◌≡◌, ℕ, ◌+◌, ◌<◌, ◌≤◌, List, [], ◌∷◌, ◌++◌, length, Option, Some, None, Bool, true, false, ◌||◌, ◌&&◌, not, refl, sym, ap, ◌∙◌, subst, if◌then◌else◌, nat_lt, nat_le, ◌==◌, arith}
use Rattle.std.proofs.lemmas.Bool.Decides.{nat_tests}
use Rattle.std.proofs.lemmas.Slice.Eq.{bytes_eq-Decides}
use Rattle.std.specs.List.{list_any}
use Rattle.std.specs.Str.{bytes_eq}
use Rattle.ir_core.specs.Places.{Name}
use Rattle.ir_core.specs.NameRefusals.{is_behind, is_far_behind, is_second}
use Rattle.ir_tables.proofs.Places.{same_turned}
use Rattle.item_names.specs.Repeated.{sooner, earliest_from, is_earliest}

abbrev pub Entry : Type 0
Entry = Name × ℕ

abbrev Kept : Type 0
Kept = ℕ × ℕ

-- ---- lines

abbrev before_line : ℕ → Option Kept → Bool
before_line line None = false
before_line line (Some p) = nat_lt p.1 line

abbrev up_to_line : ℕ → Option Kept → Bool
up_to_line line None = false
up_to_line line (Some p) = nat_le p.1 line

lt_either : (a b l : ℕ) (t : Bool) → t ≡ nat_lt b a → nat_lt (if t then b else a) l ≡ (nat_lt a l || nat_lt b l)
lt_either a b l true e = grind (arith, nat_tests, e)
lt_either a b l false e = grind (arith, nat_tests, e)

le_either : (a b l : ℕ) (t : Bool) → t ≡ nat_lt b a → nat_le (if t then b else a) l ≡ (nat_le a l || nat_le b l)
le_either a b l true e = grind (arith, nat_tests, e)
le_either a b l false e = grind (arith, nat_tests, e)

line_of : (t : Bool) (p q : Kept) → (if t then q else p).1 ≡ (if t then q.1 else p.1)
line_of true p q = refl
line_of false p q = refl

or_nothing : (b : Bool) → b ≡ (b || false)
or_nothing true = refl
or_nothing false = refl

sooner_before : (line : ℕ) (p : Kept) (o : Option Kept) → nat_lt (sooner p o).1 line ≡ (nat_lt p.1 line || before_line line o)
sooner_before line p None = or_nothing (nat_lt p.1 line)
sooner_before line p (Some q) = ap (λ n. nat_lt n line) (line_of (nat_lt q.1 p.1) p q) ∙ lt_either p.1 q.1 line (nat_lt q.1 p.1) refl

sooner_up_to : (line : ℕ) (p : Kept) (o : Option Kept) → nat_le (sooner p o).1 line ≡ (nat_le p.1 line || up_to_line line o)
sooner_up_to line p None = or_nothing (nat_le p.1 line)
sooner_up_to line p (Some q) = ap (λ n. nat_le n line) (line_of (nat_lt q.1 p.1) p q) ∙ le_either p.1 q.1 line (nat_lt q.1 p.1) refl

-- ---- a list of entries and its earliest

far_behind : (n : Entry) (k : ℕ) (es : List Entry) → list_any (is_far_behind n) es ≡ before_line n.1 (earliest_from k es n.0)
far_behind n k [] = refl
far_behind n k (e ∷ es) =
    ap (λ b. (b && nat_lt e.1 n.1) || list_any (is_far_behind n) es) (same_turned n.0 e.0)
    ∙ ap (λ b. (bytes_eq e.0 n.0 && nat_lt e.1 n.1) || b) (far_behind n (k + 1) es)
    ∙ by (bytes_eq e.0 n.0)
  where
    by : (b : Bool) → ((b && nat_lt e.1 n.1) || before_line n.1 (earliest_from (k + 1) es n.0)) ≡ before_line n.1 (if b then Some (sooner (k, e.1) (earliest_from (k + 1) es n.0)) else earliest_from (k + 1) es n.0)
    by true = sym (sooner_before n.1 (k, e.1) (earliest_from (k + 1) es n.0))
    by false = refl

behind : (n : Entry) (k : ℕ) (es : List Entry) → list_any (is_behind n) es ≡ up_to_line n.1 (earliest_from k es n.0)
behind n k [] = refl
behind n k (e ∷ es) =
    ap (λ b. (b && nat_le e.1 n.1) || list_any (is_behind n) es) (same_turned n.0 e.0)
    ∙ ap (λ b. (bytes_eq e.0 n.0 && nat_le e.1 n.1) || b) (behind n (k + 1) es)
    ∙ by (bytes_eq e.0 n.0)
  where
    by : (b : Bool) → ((b && nat_le e.1 n.1) || up_to_line n.1 (earliest_from (k + 1) es n.0)) ≡ up_to_line n.1 (if b then Some (sooner (k, e.1) (earliest_from (k + 1) es n.0)) else earliest_from (k + 1) es n.0)
    by true = sym (sooner_up_to n.1 (k, e.1) (earliest_from (k + 1) es n.0))
    by false = refl

-- the earliest of two lists
abbrev either : Option Kept → Option Kept → Option Kept
either None b = b
either (Some p) b = Some (sooner p b)

three : (p q r : Kept) (t u v : Bool) → t ≡ nat_lt q.1 p.1 → u ≡ nat_lt r.1 q.1 → v ≡ nat_lt r.1 p.1 →
    sooner p (Some (if u then r else q)) ≡ (if nat_lt r.1 (if t then q else p).1 then r else (if t then q else p))
three p q r true true v e f g = let below : nat_lt r.1 p.1 ≡ true = grind (arith, nat_tests, e, f) in rw (below, sym f) refl
three p q r true false v e f g = rw (sym e, sym f) refl
three p q r false true v e f g = refl
three p q r false false v e f g = let above : nat_lt r.1 p.1 ≡ false = grind (arith, nat_tests, e, f) in rw (sym e, above) refl

sooner_either : (p q : Kept) (o : Option Kept) → sooner p (Some (sooner q o)) ≡ sooner (sooner p (Some q)) o
sooner_either p q None = refl
sooner_either p q (Some r) = three p q r (nat_lt q.1 p.1) (nat_lt r.1 q.1) (nat_lt r.1 p.1) refl refl refl

either_more : (p : Kept) (a b : Option Kept) → either (Some (sooner p a)) b ≡ Some (sooner p (either a b))
either_more p None b = refl
either_more p (Some q) b = ap Some (sym (sooner_either p q b))

earliest_append : (k : ℕ) (as_ bs : List Entry) (x : Name) → earliest_from k (as_ ++ bs) x ≡ either (earliest_from k as_ x) (earliest_from (k + length as_) bs x)
earliest_append k [] bs x = ap (λ n. earliest_from n bs x) (omega arith)
earliest_append k (a ∷ as_) bs x =
    ap (λ o. if bytes_eq a.0 x then Some (sooner (k, a.1) o) else o) (earliest_append (k + 1) as_ bs x ∙ ap (λ n. either (earliest_from (k + 1) as_ x) (earliest_from n bs x)) (omega arith))
    ∙ by (bytes_eq a.0 x)
  where
    by : (b : Bool) → (if b then Some (sooner (k, a.1) (either (earliest_from (k + 1) as_ x) (earliest_from (k + length (a ∷ as_)) bs x))) else either (earliest_from (k + 1) as_ x) (earliest_from (k + length (a ∷ as_)) bs x)) ≡ either (if b then Some (sooner (k, a.1) (earliest_from (k + 1) as_ x)) else earliest_from (k + 1) as_ x) (earliest_from (k + length (a ∷ as_)) bs x)
    by true = sym (either_more (k, a.1) (earliest_from (k + 1) as_ x) (earliest_from (k + length (a ∷ as_)) bs x))
    by false = refl

-- places are in the list
abbrev Within : ℕ → ℕ → Option Kept → Type 0
Within low high None = Unit {0}
Within low high (Some p) = (low ≤ p.0) × (p.0 < high)

sooner_within : (low high : ℕ) (p : Kept) (o : Option Kept) → (low ≤ p.0) × (p.0 < high) → Within low high o → Within low high (Some (sooner p o))
sooner_within low high p None w v = w
sooner_within low high p (Some q) w v = elim (nat_lt q.1 p.1) as (λ t. Within low high (Some (if t then q else p))) [ true ↦ v | false ↦ w ]

wider : (low more high : ℕ) (o : Option Kept) → low ≤ more → Within more high o → Within low high o
wider low more high None h w = tt
wider low more high (Some p) h w = (omega (arith, h, w.0), w.1)

within : (k : ℕ) (es : List Entry) (x : Name) → Within k (k + length es) (earliest_from k es x)
within k [] x = tt
within k (e ∷ es) x =
    let same : k + 1 + length es ≡ k + length (e ∷ es) = omega arith in
    let rest = wider k (k + 1) (k + length (e ∷ es)) (earliest_from (k + 1) es x) (omega arith) (subst (λ n. Within (k + 1) n (earliest_from (k + 1) es x)) same (within (k + 1) es x)) in
    elim (bytes_eq e.0 x) as (λ b. Within k (k + length (e ∷ es)) (if b then Some (sooner (k, e.1) (earliest_from (k + 1) es x)) else earliest_from (k + 1) es x)) [
      | true ↦ sooner_within k (k + length (e ∷ es)) (k, e.1) (earliest_from (k + 1) es x) (omega arith, omega arith) rest
      | false ↦ rest
    ]

-- ---- an entry between two lists

same_place : (i : ℕ) → (i == i) ≡ true
same_place i = grind (arith, nat_tests)

above_place : (i j : ℕ) → i < j → (j == i) ≡ false
above_place i j h = grind (arith, nat_tests)

below_place : (i j : ℕ) → j < i → (j == i) ≡ false
below_place i j h = grind (arith, nat_tests)

-- the entry and those behind it
rest_of : (i line high : ℕ) (o : Option Kept) → Within (i + 1) high o → ((sooner (i, line) o).0 == i) ≡ not (before_line line o)
rest_of i line high None w = same_place i
rest_of i line high (Some q) w = elim (nat_lt q.1 line) as (λ t. ((if t then q else (i, line)).0 == i) ≡ not t) [ true ↦ above_place i q.0 (omega (arith, w.0)) | false ↦ same_place i ]

rest_line : (i line : ℕ) (o : Option Kept) → (sooner (i, line) o).1 ≤ line
rest_line i line None = omega arith
rest_line i line (Some q) = by (nat_lt q.1 line) refl
  where
    by : (t : Bool) → nat_lt q.1 line ≡ t → (if t then q else (i, line)).1 ≤ line
    by true e = grind (arith, nat_tests, e)
    by false e = omega arith

rest_place : (i line high : ℕ) (o : Option Kept) → Within (i + 1) high o → i ≤ (sooner (i, line) o).0
rest_place i line high None w = omega arith
rest_place i line high (Some q) w = elim (nat_lt q.1 line) as (λ t. i ≤ (if t then q else (i, line)).0) [ true ↦ omega (arith, w.0) | false ↦ omega arith ]

-- an entry of the name stands before
with_before : (i line low : ℕ) (p r : Kept) (b : Bool) → p.0 < i → i ≤ r.0 → r.1 ≤ line → ((r.0 == i) ≡ not b) → (r.1 < line → b ≡ true) →
    ((if nat_lt r.1 p.1 then r else p).0 == i) ≡ not (nat_le p.1 line || b)
with_before i line low p r b below above early is far = by (nat_lt r.1 p.1) (nat_le p.1 line) refl refl b is far
  where
    by : (t u : Bool) → nat_lt r.1 p.1 ≡ t → nat_le p.1 line ≡ u → (c : Bool) → ((r.0 == i) ≡ not c) → (r.1 < line → c ≡ true) → ((if t then r else p).0 == i) ≡ not (u || c)
    by true true e f c same soon = same ∙ ap not (soon (grind (arith, nat_tests, e, f)))
    by true false e f c same soon = same
    by false true e f c same soon = below_place i p.0 below
    by false false e f c same soon = let no : ⊥ = grind (arith, nat_tests, e, f, early) in absurd no

before_far : (i line : ℕ) (o : Option Kept) → (sooner (i, line) o).1 < line → before_line line o ≡ true
before_far i line None h = let no : ⊥ = omega arith in absurd no
before_far i line (Some q) h = by (nat_lt q.1 line) refl h
  where
    by : (t : Bool) → nat_lt q.1 line ≡ t → (if t then q else (i, line)).1 < line → nat_lt q.1 line ≡ true
    by true e h2 = e
    by false e h2 = let no : ⊥ = omega (arith, h2) in absurd no

between : (i line high : ℕ) (a b : Option Kept) → Within 0 i a → Within (i + 1) high b → is_earliest i (either a (Some (sooner (i, line) b))) ≡ not (up_to_line line a || before_line line b)
between i line high None b w v = rest_of i line high b v
between i line high (Some p) b w v =
    with_before i line 0 p (sooner (i, line) b) (before_line line b) w.1 (rest_place i line high b v) (rest_line i line b) (rest_of i line high b v) (before_far i line b)

itself : (n : Entry) (i : ℕ) (es : List Entry) → earliest_from i (n ∷ es) n.0 ≡ Some (sooner (i, n.1) (earliest_from (i + 1) es n.0))
itself n i es = ap (λ b. if b then Some (sooner (i, n.1) (earliest_from (i + 1) es n.0)) else earliest_from (i + 1) es n.0) ((bytes_eq-Decides n.0 n.0).1 refl)

second_or : (a b : Bool) → (if a then true else b) ≡ (a || b)
second_or true b = refl
second_or false b = refl

-- an entry with others before and behind it
pub second_between : (n : Entry) (as_ bs before : List Entry) → list_any (is_behind n) before ≡ list_any (is_behind n) as_ → is_second n before bs ≡ not (is_earliest (length as_) (earliest_from 0 (as_ ++ n ∷ bs) n.0))
second_between n as_ bs before same =
    second_or (list_any (is_behind n) before) (list_any (is_far_behind n) bs)
    ∙ ap (λ a. a || list_any (is_far_behind n) bs) (same ∙ behind n 0 as_)
    ∙ ap (λ b. up_to_line n.1 (earliest_from 0 as_ n.0) || b) (far_behind n (length as_ + 1) bs)
    ∙ sym (not_not (up_to_line n.1 (earliest_from 0 as_ n.0) || before_line n.1 (earliest_from (length as_ + 1) bs n.0)))
    ∙ ap not (sym (between (length as_) n.1 (length as_ + 1 + length bs) (earliest_from 0 as_ n.0) (earliest_from (length as_ + 1) bs n.0) (subst (λ k. Within 0 k (earliest_from 0 as_ n.0)) none_more (within 0 as_ n.0)) (within (length as_ + 1) bs n.0)))
    ∙ ap (λ o. not (is_earliest (length as_) (either (earliest_from 0 as_ n.0) o))) (sym (itself n (length as_) bs))
    ∙ ap (λ k. not (is_earliest (length as_) (either (earliest_from 0 as_ n.0) (earliest_from k (n ∷ bs) n.0)))) (sym none_more)
    ∙ ap (λ o. not (is_earliest (length as_) o)) (sym (earliest_append 0 as_ (n ∷ bs) n.0))
  where
    none_more : 0 + length as_ ≡ length as_
    none_more = omega arith

    not_not : (b : Bool) → not (not b) ≡ b
    not_not true = refl
    not_not false = refl
