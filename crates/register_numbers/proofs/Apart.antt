-- Registers have numbers of their own: each function's stand behind those of the functions before it.
use Rattle.std.proofs.Common.{◌≡◌, ℕ, zero, suc, ◌+◌, ◌<◌, ◌≤◌, List, [], ◌∷◌, ◌++◌, length, take, Option, Some, None, option_map, Bool, true, false, ◌⊎◌, inl, inr, refl, sym, ap, ◌∙◌, slice_get, if◌then◌else◌, arith, add-one, length-append}
use Rattle.std.specs.List.{flat_map}
use Rattle.std.specs.Str.{bytes_eq}
use Rattle.std.proofs.lemmas.List.{append-nil}
use Rattle.std.proofs.lemmas.Option.{none-some, same_Some}
use Rattle.std.proofs.lemmas.Slice.Eq.{bytes_eq-Decides}
use Rattle.ir_core.specs.declared.module.Function.{Function}
use Rattle.ir_core.specs.declared.module.Module.{Module}
use Rattle.ir_core.specs.Places.{Name, place_from, place_in, register_names, register_names_of}
use Rattle.ir_tables.proofs.Scans.{place_from-within}
use Rattle.register_numbers.specs.Numbers.{names_of, before, register_count, number_of, AreStarts}

-- ---- how many registers there are before a place

abbrev counted : List Function → ℕ → ℕ
counted fs n = length (flat_map names_of (take n fs))

counted_more : (fs : List Function) (n : ℕ) → counted fs (suc n) ≡ counted fs n + length (register_names_of (slice_get fs n))
counted_more [] zero = refl
counted_more [] (suc n) = refl
counted_more (f ∷ fs) zero = let same = ap length (append-nil (names_of f)) in omega (arith, same)
counted_more (f ∷ fs) (suc n) =
    let more = counted_more fs n in
    let old = length-append (names_of f) (flat_map names_of (take n fs)) in
    let new = length-append (names_of f) (flat_map names_of (take (suc n) fs)) in
    omega (arith, more, old, new)

counted_in : (fs : List Function) (n : ℕ) → counted fs n ≤ length (flat_map names_of fs)
counted_in [] zero = omega arith
counted_in [] (suc n) = omega arith
counted_in (f ∷ fs) zero = omega arith
counted_in (f ∷ fs) (suc n) =
    let rest = counted_in fs n in
    let old = length-append (names_of f) (flat_map names_of (take n fs)) in
    let new = length-append (names_of f) (flat_map names_of fs) in
    omega (arith, rest, old, new)

counted_grows : (fs : List Function) (a b : ℕ) → a ≤ b → counted fs a ≤ counted fs b
counted_grows fs zero b low = omega arith
counted_grows fs (suc a) zero low = let e : ⊥ = omega (arith, low) in absurd e
counted_grows [] (suc a) (suc b) low = omega arith
counted_grows (f ∷ fs) (suc a) (suc b) low =
    let rest = counted_grows fs a b (omega (arith, low)) in
    let old = length-append (names_of f) (flat_map names_of (take a fs)) in
    let new = length-append (names_of f) (flat_map names_of (take b fs)) in
    omega (arith, rest, old, new)

counted_all : (fs : List Function) (n : ℕ) → length fs ≤ n → counted fs n ≡ length (flat_map names_of fs)
counted_all [] zero low = refl
counted_all [] (suc n) low = refl
counted_all (f ∷ fs) zero low = let e : ⊥ = omega (arith, low) in absurd e
counted_all (f ∷ fs) (suc n) low =
    length-append (names_of f) (flat_map names_of (take n fs))
    ∙ ap (λ k. length (names_of f) + k) (counted_all fs n (omega (arith, low)))
    ∙ sym (length-append (names_of f) (flat_map names_of fs))

pub before_more : (m : Module) (n : ℕ) → before m (n + 1) ≡ before m n + length (register_names m n)
before_more m n = ap (counted m.functions) (add-one n) ∙ counted_more m.functions n

pub before_all : (m : Module) (n : ℕ) → length m.functions ≤ n → before m n ≡ register_count m
before_all m n low = counted_all m.functions n low

-- ---- a name's place

from_here : (n i : ℕ) (b : Bool) (rest : Option ℕ) → (if b then Some n else rest) ≡ Some i → (rest ≡ Some i → n + 1 ≤ i) → n ≤ i
from_here n i true rest e more = let same = same_Some n i e in omega (arith, same)
from_here n i false rest e more = let low = more e in omega (arith, low)

place_from-low : (n i : ℕ) (xs : List Name) (x : Name) → place_from n xs x ≡ Some i → n ≤ i
place_from-low n i [] x e = absurd (none-some i e)
place_from-low n i (z ∷ zs) x e = from_here n i (bytes_eq z x) (place_from (n + 1) zs x) e (place_from-low (n + 1) i zs x)

module _ (n i : ℕ) (z : Name) (zs : List Name) (x y : Name) where
  not_behind : (w : Name) → place_from (n + 1) zs w ≡ Some i → n ≡ i → ⊥
  not_behind w e same = let low = place_from-low (n + 1) i zs w e in omega (arith, low, same)

  by_tests : (b c : Bool) → bytes_eq z x ≡ b → bytes_eq z y ≡ c → (if b then Some n else place_from (n + 1) zs x) ≡ Some i → (if c then Some n else place_from (n + 1) zs y) ≡ Some i
      → (place_from (n + 1) zs x ≡ Some i → place_from (n + 1) zs y ≡ Some i → x ≡ y) → x ≡ y
  by_tests true true p q e f more = sym ((bytes_eq-Decides z x).0 p) ∙ (bytes_eq-Decides z y).0 q
  by_tests true false p q e f more = absurd (not_behind y f (same_Some n i e))
  by_tests false true p q e f more = absurd (not_behind x e (same_Some n i f))
  by_tests false false p q e f more = more e f

same_name : (n i : ℕ) (xs : List Name) (x y : Name) → place_from n xs x ≡ Some i → place_from n xs y ≡ Some i → x ≡ y
same_name n i [] x y e f = absurd (none-some i e)
same_name n i (z ∷ zs) x y e f = by_tests n i z zs x y (bytes_eq z x) (bytes_eq z y) refl refl e f (same_name (n + 1) i zs x y)

-- ---- a register's number

-- its place among the registers of its function
pub record Numbered (m : Module) (at : ℕ) (x : Name) (n : ℕ) : Type 0 where
  pub place : ℕ
  pub found : place_in (register_names m at) x ≡ Some place
  pub within : place < length (register_names m at)
  pub is : n ≡ before m at + place

pub numbered : (m : Module) (at : ℕ) (x : Name) (n : ℕ) → number_of m at x ≡ Some n → Numbered m at x n
numbered m at x n e = of (place_in (register_names m at) x) refl e where
  of : (o : Option ℕ) → place_in (register_names m at) x ≡ o → option_map (λ place. before m at + place) o ≡ Some n → Numbered m at x n
  of None found e = absurd (none-some n e)
  of (Some place) found e = record {
    place = place;
    found = found;
    within = let low = place_from-within 0 place (register_names m at) x found in omega (arith, low);
    is = sym (same_Some (before m at + place) n e);
  }

-- the function's registers end before those of the next one begin
within_function : (m : Module) (at : ℕ) (x : Name) (n : ℕ) → Numbered m at x n → n < before m (at + 1)
within_function m at x n r = let more = before_more m at in let within = r.within in let is = r.is in omega (arith, more, within, is)

-- a number is below how many there are
pub number_within : (m : Module) (at : ℕ) (x : Name) (n : ℕ) → number_of m at x ≡ Some n → n < register_count m
number_within m at x n e =
    let low = within_function m at x n (numbered m at x n e) in
    let most = counted_in m.functions (at + 1) in
    omega (arith, low, most)

module _ (m : Module) (f g : ℕ) (x y : Name) (n : ℕ) (a : Numbered m f x n) (b : Numbered m g y n) where
  not_later : f < g → ⊥
  not_later less =
      let low = within_function m f x n a in
      let grows = counted_grows m.functions (f + 1) g (omega (arith, less)) in
      let is = b.is in
      omega (arith, low, grows, is)

-- two registers of one number are the same
pub one_register : (m : Module) (f g : ℕ) (x y : Name) (n : ℕ) → number_of m f x ≡ Some n → number_of m g y ≡ Some n → (f ≡ g) × (x ≡ y)
one_register m f g x y n p q =
    let a = numbered m f x n p in
    let b = numbered m g y n q in
    let up = not_later m f g x y n a b in
    let down = not_later m g f y x n b a in
    let same : f ≡ g = omega (arith, up, down) in
    (same, names a b same)
  where
    names : Numbered m f x n → Numbered m g y n → f ≡ g → x ≡ y
    names a b same =
        let first = a.is in
        let second = b.is in
        let starts : before m f ≡ before m g = ap (before m) same in
        let places : a.place ≡ b.place = omega (arith, first, second, starts) in
        same_name 0 b.place (register_names m g) x y (sym (ap (λ k. place_in (register_names m k) x) same) ∙ a.found ∙ ap Some places) b.found

-- each register that is given has a number
pub has_number : (m : Module) (at : ℕ) (x : Name) (place : ℕ) → place_in (register_names m at) x ≡ Some place → number_of m at x ≡ Some (before m at + place)
has_number m at x place found = ap (option_map (λ p. before m at + p)) found

-- ---- the first numbers of functions

before_or_last : (xs : List ℕ) (x at k : ℕ) → slice_get (xs ++ x ∷ []) at ≡ Some k → (slice_get xs at ≡ Some k) ⊎ ((at ≡ length xs) × (k ≡ x))
before_or_last [] x zero k e = inr (refl, sym (same_Some x k e))
before_or_last [] x (suc at) k e = absurd (none-some k e)
before_or_last (z ∷ zs) x zero k e = inl e
before_or_last (z ∷ zs) x (suc at) k e = elim (before_or_last zs x at k e) [ inl h ↦ inl h | inr h ↦ inr (ap suc h.0, h.1) ]

-- those of the functions before a place
abbrev pub AreStartsBelow : Module → ℕ → List ℕ → ℕ → Type 0
AreStartsBelow m n starts total = (length starts ≡ n) × ((at k : ℕ) → slice_get starts at ≡ Some k → k ≡ before m at) × (total ≡ before m n)

pub starts_more : (m : Module) (n : ℕ) (starts : List ℕ) (total more : ℕ) → AreStartsBelow m n starts total → more ≡ total + length (register_names m n) → AreStartsBelow m (n + 1) (starts ++ total ∷ []) more
starts_more m n starts total more are is = (
  (let size = length-append starts (total ∷ []) in let old = are.0 in omega (arith, size, old)),
  λ at k e. stands at k (before_or_last starts total at k e),
  is ∙ ap (λ t. t + length (register_names m n)) are.2 ∙ sym (before_more m n),
) where
  stands : (at k : ℕ) → (slice_get starts at ≡ Some k) ⊎ ((at ≡ length starts) × (k ≡ total)) → k ≡ before m at
  stands at k (inl e) = are.1 at k e
  stands at k (inr e) = e.1 ∙ are.2 ∙ ap (before m) (sym (e.0 ∙ are.0))

-- a number is below how many there are, as the code adds it up
pub sum_within : (m : Module) (starts : List ℕ) (total at start place : ℕ) (x : Name) → AreStarts m starts → total ≡ register_count m
    → place_in (register_names m at) x ≡ Some place → slice_get starts at ≡ Some start → start + place < total
sum_within m starts total at start place x are all found there =
    let within = number_within m at x (before m at + place) (has_number m at x place found) in
    let is = are.1 at start there in
    omega (arith, within, is, all)
