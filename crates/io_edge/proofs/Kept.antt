-- The counts that are kept for names, and the names for which one is kept.
use Rattle.std.proofs.Common.{◌≡◌, ◌≢◌, ℕ, zero, suc, ◌+◌, ◌<◌, ◌≤◌, List, [], ◌∷◌, length, get_or, Bool, true, false, not, cond, nat_lt, Option, Some, None, refl, sym, ap, ◌∙◌, arith, string_bytes, slice_set, slice_get}
use Rattle.std.proofs.lemmas.List.{get_or-set_other}
use Rattle.std.proofs.lemmas.List.Quantifiers.{position-Some}
use Rattle.std.specs.List.{position_or_len}
use Rattle.std.proofs.lemmas.Bool.Decides.{nat_tests}
use Rattle.std.specs.Str.{bytes_eq}
use Rattle.std.proofs.lemmas.Slice.Eq.{bytes_eq-Decides}
use Rattle.std.specs.declared.string.String.{String}
use Rattle.std.specs.declared.alloc.Global.{Global}
use Rattle.io_edge.specs.Place.{place, count_at, IsKept, IsServed}

-- two names at one place are one
one_name : (words : List (String Global)) (i : ℕ) (a b : List ℕ) → place words a ≡ Some i → place words b ≡ Some i → a ≡ b
one_name [] i a b p q = let f : ⊥ = cc in absurd f
one_name (w ∷ ws) i a b p q =
    let word = get_or (w ∷ ws) i w in
    let x = position-Some (λ w. bytes_eq (string_bytes w) a) (w ∷ ws) i w p in
    let y = position-Some (λ w. bytes_eq (string_bytes w) b) (w ∷ ws) i w q in
    sym ((bytes_eq-Decides (string_bytes word) a).0 x.1) ∙ (bytes_eq-Decides (string_bytes word) b).0 y.1

count_else : (words : List (String Global)) (counts : List ℕ) (i v : ℕ) (name other : List ℕ) → place words name ≡ Some i → other ≢ name → (o : Option ℕ) → place words other ≡ o → count_at (slice_set counts i v) o ≡ count_at counts o
count_else words counts i v name other p apart None q = refl
count_else words counts i v name other p apart (Some j) q =
    get_or-set_other counts i j v 0 (λ e. apart (one_name words i other name (q ∙ ap Some e) p))

-- a count that is raised for one name is that of no other
pub others_stay : (words : List (String Global)) (counts : List ℕ) (i v : ℕ) (name : List ℕ) → place words name ≡ Some i →
    (other : List ℕ) → other ≢ name → count_at (slice_set counts i v) (place words other) ≡ count_at counts (place words other)
others_stay words counts i v name p other apart = count_else words counts i v name other p apart (place words other) refl

by_test : (fails : Bool) (first i : ℕ) → first ≤ i → cond (not fails) (1 + first) 0 ≤ suc i
by_test true first i low = omega arith
by_test false first i low = omega arith

-- the first item that passes stands at or before each that does
first_within : {X : Type 0} (passes : X → Bool) (xs : List X) (i : ℕ) (x : X) → slice_get xs i ≡ Some x → passes x ≡ true → (position_or_len passes xs ≤ i) × (i < length xs)
first_within passes [] i x at passed = let f : ⊥ = cc in absurd f
first_within passes (y ∷ ys) zero x at passed =
    let here : passes y ≡ true = cc in
    (rw here (omega arith), omega arith)
first_within passes (y ∷ ys) (suc i) x at passed =
    let later = first_within passes ys i x at passed in
    (by_test (passes y) (position_or_len passes ys) i later.0, omega (arith, later.1))

kept_where : (is_there : Bool) (i : ℕ) → is_there ≡ true → i < 8 → IsKept (cond is_there (Some i) None)
kept_where true i passed low = low
kept_where false i passed low = let f : ⊥ = cc in absurd f

-- each of the first eight words is served
pub word_is_served : (words : List (String Global)) (i : ℕ) (word : String Global) → slice_get words i ≡ Some word → i < 8 → IsServed words (string_bytes word)
word_is_served words i word at low =
    let test : String Global → Bool = λ w. bytes_eq (string_bytes w) (string_bytes word) in
    let first = first_within test words i word at ((bytes_eq-Decides (string_bytes word) (string_bytes word)).1 refl) in
    let there : nat_lt (position_or_len test words) (length words) ≡ true = grind (arith, nat_tests, first.0, first.1) in
    kept_where (nat_lt (position_or_len test words) (length words)) (position_or_len test words) there (omega (arith, first.0))

-- the second of two words is served
pub second_is_served : (first second : String Global) → IsServed (first ∷ second ∷ []) (string_bytes second)
second_is_served first second = word_is_served (first ∷ second ∷ []) 1 second refl (omega arith)
