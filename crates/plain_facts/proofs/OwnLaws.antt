-- What the uses say of a register: one more use, what is allowed, and whether there is one.
use Rattle.std.proofs.Common.{◌≡◌, ◌⊎◌, ◌==◌, ◌<◌, ◌+◌, ℕ, zero, suc, List, [], ◌∷◌, ◌++◌, length, take, get_or, Bool, true, false, Option, Some, None, inl, inr, refl, sym, ap, subst, ◌∙◌, slice_get, slice_set, if◌then◌else◌, arith}
use Rattle.std.proofs.lemmas.Bool.Decides.{nat_tests}
use Rattle.std.proofs.lemmas.List.{length-set, take_more}
use Rattle.std.proofs.lemmas.Option.{none-some, same_Some, slice_get-get_or}
use Rattle.ir_core.specs.declared.instructions.Value.{Value}
use Rattle.ir_core.specs.declared.instructions.Value.TheVariants.{Int as IntValue}
use Rattle.accepted_laws.proofs.Nothing.{not_both}
use Rattle.reach.proofs.Lists.{get_set, get_other}
use Rattle.call_graph.proofs.ListLaws.{none_among}
use Rattle.register_hops.specs.Numbered.{Stands}
use Rattle.plain_facts.specs.declared.uses.Use.{Use}
use Rattle.plain_facts.specs.declared.own.Own.{Own}
use Rattle.plain_facts.specs.declared.own.Own.TheVariants.{Unused, Released, Otherwise}
use Rattle.plain_facts.specs.Uses.{joined, with_use, own_behind, own_of, AreOwn}
use Rattle.plain_facts.specs.Backs.{is_used}
use Rattle.plain_facts.specs.Reads.{allows}

pub same_number : (a b : ℕ) → (a == b) ≡ true → a ≡ b
same_number a b e = grind (arith, nat_tests)

pub is_itself : (a b : ℕ) → a ≡ b → (a == b) ≡ true
is_itself a b e = grind (arith, nat_tests)

other_number : (a b : ℕ) → (a == b) ≡ false → b ≡ a → ⊥
other_number a b e f = not_both (a == b) (is_itself a b (sym f)) e

-- ---- one more use

own_more : (n : ℕ) (own : Own) (us : List Use) (u : Use) → own_behind n own (us ++ u ∷ []) ≡ with_use n (own_behind n own us) u
own_more n own [] u = refl
own_more n own (v ∷ us) u = own_more n (with_use n own v) us u

module _ (count : ℕ) (us : List Use) (row new : List Own) (u : Use) (old : Own) (are : AreOwn count us row) (low : u.register < count) (read : slice_get row u.register ≡ Some old)
    (is : new ≡ slice_set row u.register (joined old u.released)) where
  abbrev next : List Own
  next = slice_set row u.register (joined old u.released)

  below : u.register < length row
  below = let size = are.0 in omega (arith, size, low)

  at : (n : ℕ) → n < count → (b : Bool) → (u.register == n) ≡ b → slice_get next n ≡ Some (own_of (us ++ u ∷ []) n)
  at n within true e =
      let same = same_number u.register n e in
      let was : old ≡ own_of us n = same_Some old (own_of us n) (sym read ∙ ap (slice_get row) same ∙ are.1 n within) in
      ap (slice_get next) (sym same)
      ∙ get_set row u.register (joined old u.released) below
      ∙ ap (λ o. Some (joined o u.released)) was
      ∙ ap Some (sym (own_more n Unused us u ∙ ap (λ b. if b then joined (own_of us n) u.released else own_of us n) e))
  at n within false e =
      get_other row u.register n (joined old u.released) (other_number u.register n e)
      ∙ are.1 n within
      ∙ ap Some (sym (own_more n Unused us u ∙ ap (λ b. if b then joined (own_of us n) u.released else own_of us n) e))

  pub own_next : AreOwn count (us ++ u ∷ []) new
  own_next =
      let P : List Own → Type 0 = λ r. AreOwn count (us ++ u ∷ []) r in
      subst P (sym is) (length-set row u.register _ ∙ are.0, λ n within. at n within (u.register == n) refl)

-- one more use of a list
module _ (uses : List Use) (n : ℕ) (d : Use) (within : n < length uses) where
  pub use_at : Stands uses (get_or uses n d)
  use_at = (n, slice_get-get_or uses n d within)

  pub own_later : (count : ℕ) (row new : List Own) (old : Own) → AreOwn count (take n uses) row → (get_or uses n d).register < count → slice_get row (get_or uses n d).register ≡ Some old
      → new ≡ slice_set row (get_or uses n d).register (joined old (get_or uses n d).released) → AreOwn count (take (n + 1) uses) new
  own_later count row new old are low read is =
      let P : List Use → Type 0 = λ us. AreOwn count us new in
      subst P (sym (take_more uses n d within)) (own_next count (take n uses) row new (get_or uses n d) old are low read is)

-- ---- what is allowed

abbrev pub IsReleasedAs : Option ℕ → Value → Type 0
IsReleasedAs released size = (k : ℕ) × (released ≡ Some k) × (size ≡ IntValue k)

abbrev pub AllReleased : ℕ → List Use → Value → Type 0
AllReleased n us size = (u : Use) → Stands us u → u.register ≡ n → IsReleasedAs u.released size

number_is : (k : ℕ) (size : Value) → allows (Released k) size ≡ true → size ≡ IntValue k
number_is k (IntValue j) e = ap IntValue (sym (same_number k j e))
number_is k _ e = not_both false e refl

number_allows : (k : ℕ) (size : Value) → size ≡ IntValue k → allows (Released k) size ≡ true
number_allows k size e = ap (allows (Released k)) e ∙ is_itself k k refl

both_allows : (a b : ℕ) (size : Value) (t : Bool) → (a == b) ≡ t → allows (if t then Released a else Otherwise) size ≡ true → (allows (Released a) size ≡ true) × IsReleasedAs (Some b) size
both_allows a b size true p e = (e, (b, refl, number_is a size e ∙ ap IntValue (same_number a b p)))
both_allows a b size false p e = not_both false e refl

joined_is : (own : Own) (r : Option ℕ) (size : Value) → allows (joined own r) size ≡ true → (allows own size ≡ true) × IsReleasedAs r size
joined_is own None size e = not_both false e refl
joined_is Unused (Some k) size e = (refl, (k, refl, number_is k size e))
joined_is (Released a) (Some b) size e = both_allows a b size (a == b) refl e
joined_is Otherwise (Some k) size e = not_both false e refl

joined_of : (own : Own) (r : Option ℕ) (size : Value) → allows own size ≡ true → IsReleasedAs r size → allows (joined own r) size ≡ true
joined_of own None size e h = absurd (none-some h.0 h.1)
joined_of Unused (Some k) size e h = number_allows k size (h.2 ∙ ap IntValue (sym (same_Some k h.0 h.1)))
joined_of (Released a) (Some b) size e h =
    let first = number_is a size e in
    let second = h.2 in
    let third : b ≡ h.0 = same_Some b h.0 h.1 in
    let same : a ≡ b = int_same a h.0 (sym first ∙ second) ∙ sym third in
    ap (λ t. allows (if t then Released a else Otherwise) size) (is_itself a b same) ∙ e
  where
    int_same : (j k : ℕ) → ◌≡◌ {A = Value} (IntValue j) (IntValue k) → j ≡ k
    int_same j k e = cc
joined_of Otherwise (Some k) size e h = not_both false e refl

module _ (n : ℕ) (size : Value) where
  step_is : (own : Own) (v : Use) (b : Bool) → (v.register == n) ≡ b → allows (if b then joined own v.released else own) size ≡ true → (allows own size ≡ true) × (v.register ≡ n → IsReleasedAs v.released size)
  step_is own v true p e = let r = joined_is own v.released size e in (r.0, λ same. r.1)
  step_is own v false p e = (e, λ same. absurd (other_number v.register n p (sym same)))

  step_of : (own : Own) (v : Use) (b : Bool) → (v.register == n) ≡ b → allows own size ≡ true → (v.register ≡ n → IsReleasedAs v.released size) → allows (if b then joined own v.released else own) size ≡ true
  step_of own v true p e h = joined_of own v.released size e (h (same_number v.register n p))
  step_of own v false p e h = e

  pub allowed_is : (own : Own) (us : List Use) → allows (own_behind n own us) size ≡ true → (allows own size ≡ true) × AllReleased n us size
  allowed_is own [] e = (e, λ u s. absurd (none_among u s))
  allowed_is own (v ∷ us) e =
      let rest = allowed_is (with_use n own v) us e in
      let here = step_is own v (v.register == n) refl rest.0 in
      (here.0, λ u s. either u s.0 s.1 here.1 rest.1)
    where
      either : (u : Use) (k : ℕ) → slice_get (v ∷ us) k ≡ Some u → (v.register ≡ n → IsReleasedAs v.released size) → AllReleased n us size → u.register ≡ n → IsReleasedAs u.released size
      either u zero s h rest =
          let P : Use → Type 0 = λ w. w.register ≡ n → IsReleasedAs w.released size in
          subst P (same_Some v u s) h
      either u (suc k) s h rest = rest u (k, s)

  pub allowed_of : (own : Own) (us : List Use) → allows own size ≡ true → AllReleased n us size → allows (own_behind n own us) size ≡ true
  allowed_of own [] e h = e
  allowed_of own (v ∷ us) e h = allowed_of (with_use n own v) us (step_of own v (v.register == n) refl e (h v (0, refl))) (λ u s. h u (suc s.0, s.1))

-- ---- whether there is a use

abbrev UsedBy : ℕ → List Use → Type 0
UsedBy n us = (u : Use) × Stands us u × (u.register ≡ n)

both_used : (a : ℕ) (t : Bool) → is_used (Some (if t then Released a else Otherwise)) ≡ true
both_used a true = refl
both_used a false = refl

joined_used : (own : Own) (r : Option ℕ) → is_used (Some (joined own r)) ≡ true
joined_used own None = refl
joined_used Unused (Some k) = refl
joined_used (Released a) (Some b) = both_used a (a == b)
joined_used Otherwise (Some k) = refl

module _ (n : ℕ) where
  kept : (own : Own) (v : Use) (b : Bool) → is_used (Some own) ≡ true → is_used (Some (if b then joined own v.released else own)) ≡ true
  kept own v true e = joined_used own v.released
  kept own v false e = e

  kept_all : (own : Own) (us : List Use) → is_used (Some own) ≡ true → is_used (Some (own_behind n own us)) ≡ true
  kept_all own [] e = e
  kept_all own (v ∷ us) e = kept_all (with_use n own v) us (kept own v (v.register == n) e)

  pub used_of : (own : Own) (us : List Use) (u : Use) (k : ℕ) → slice_get us k ≡ Some u → u.register ≡ n → is_used (Some (own_behind n own us)) ≡ true
  used_of own [] u k e same = absurd (none-some u e)
  used_of own (v ∷ us) u zero e same =
      let test = is_itself v.register n (ap (λ (w : Use). w.register) (same_Some v u e) ∙ same) in
      kept_all (with_use n own v) us (ap (λ b. is_used (Some (if b then joined own v.released else own))) test ∙ joined_used own v.released)
  used_of own (v ∷ us) u (suc k) e same = used_of (with_use n own v) us u k e same

  step_used : (own : Own) (v : Use) (us : List Use) (b : Bool) → (v.register == n) ≡ b → is_used (Some (if b then joined own v.released else own)) ≡ true → (is_used (Some own) ≡ true) ⊎ UsedBy n (v ∷ us)
  step_used own v us true p e = inr (v, (0, refl), same_number v.register n p)
  step_used own v us false p e = inl e

  used_is : (own : Own) (us : List Use) → is_used (Some (own_behind n own us)) ≡ true → (is_used (Some own) ≡ true) ⊎ UsedBy n us
  used_is own [] e = inl e
  used_is own (v ∷ us) e = elim (used_is (with_use n own v) us e) [
    | inl h ↦ step_used own v us (v.register == n) refl h
    | inr r ↦ inr (r.0, (suc r.1.0, r.1.1), r.2)
  ]

  pub used_by : (us : List Use) → is_used (Some (own_of us n)) ≡ true → UsedBy n us
  used_by us e = elim (used_is Unused us e) [ inl h ↦ not_both false h refl | inr r ↦ r ]
