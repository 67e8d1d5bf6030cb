-- Ways from parts to parts, and the fronts in which they are found.
use Rattle.std.proofs.Common.{◌≡◌, ℕ, zero, suc, ◌<◌, ◌≤◌, List, [], ◌∷◌, ◌++◌, length, Option, Some, None, Bool, true, false, ◌||◌, refl, sym, ap, ◌∙◌, subst, if◌then◌else◌, ◌==◌, arith, ◌⊎◌, inl, inr, true≢false}
use Rattle.std.proofs.lemmas.Bool.Decides.{nat_tests}
use Rattle.std.proofs.lemmas.Bool.{cases_lt}
use Rattle.std.proofs.lemmas.Option.{none-some, slice_get_past}
use Rattle.std.specs.Prelude.{slice_get, slice_set}
use Rattle.std.specs.List.{flat_map, fold, list_any}
use Rattle.item_names.specs.Circles.{or_none, parts_at, has, leads, is_marked, marked, mark_if, mark}

-- ---- tests on the items of a list

pub true_or_false : {A : Type 0} (b : Bool) → b ≡ true → b ≡ false → A
true_or_false b yes_ no_ = absurd (true≢false (sym yes_ ∙ no_))

pub both_ways : (a b : Bool) → (a ≡ true → b ≡ true) → (b ≡ true → a ≡ true) → a ≡ b
both_ways true b f g = sym (f refl)
both_ways false true f g = g refl
both_ways false false f g = refl

or_left : (a b : Bool) → a ≡ true → (a || b) ≡ true
or_left a b e = ap (λ c. c || b) e

or_right : (a b : Bool) → b ≡ true → (a || b) ≡ true
or_right true b e = refl
or_right false b e = e

pub itself : (q : ℕ) → (q == q) ≡ true
itself q = grind (arith, nat_tests)

pub same_of : (q r : ℕ) → (q == r) ≡ true → q ≡ r
same_of q r e = grind (arith, nat_tests)

-- an item that passes
abbrev pub Passes : (ℕ → Bool) → List ℕ → Type 0
Passes test xs = (x : ℕ) × (has x xs ≡ true) × (test x ≡ true)

pub any_from : (test : ℕ → Bool) (xs : List ℕ) → list_any test xs ≡ true → Passes test xs
any_from test [] e = true_or_false false e refl
any_from test (x ∷ xs) e = by (test x) refl (any_from test xs)
  where
    behind : Passes test xs → Passes test (x ∷ xs)
    behind p = (p.0, or_right (x == p.0) (has p.0 xs) p.1, p.2)

    by : (b : Bool) → test x ≡ b → (list_any test xs ≡ true → Passes test xs) → Passes test (x ∷ xs)
    by true h rest = (x, or_left (x == x) (has x xs) (itself x), h)
    by false h rest = behind (rest (sym (ap (λ b. b || list_any test xs) h) ∙ e))

pub any_to : (test : ℕ → Bool) (xs : List ℕ) (x : ℕ) → has x xs ≡ true → test x ≡ true → list_any test xs ≡ true
any_to test [] x in_ e = true_or_false false in_ refl
any_to test (y ∷ xs) x in_ e = by (y == x) refl (λ h. any_to test xs x h e)
  where
    by : (b : Bool) → (y == x) ≡ b → (has x xs ≡ true → list_any test xs ≡ true) → list_any test (y ∷ xs) ≡ true
    by true h rest = or_left (test y) (list_any test xs) (ap test (same_of y x h) ∙ e)
    by false h rest = or_right (test y) (list_any test xs) (rest (sym (ap (λ b. b || has x xs) h) ∙ in_))

pub none_in : (q : ℕ) → has q [] ≡ true → {A : Type 0} → A
none_in q e = true_or_false false e refl

pub has_append : (q : ℕ) (xs ys : List ℕ) → has q (xs ++ ys) ≡ (has q xs || has q ys)
has_append q [] ys = refl
has_append q (x ∷ xs) ys = ap (λ b. (x == q) || b) (has_append q xs ys) ∙ by (x == q)
  where
    by : (b : Bool) → (b || (has q xs || has q ys)) ≡ ((b || has q xs) || has q ys)
    by true = refl
    by false = refl

-- one of two lists has it
one_of : (q : ℕ) (xs ys : List ℕ) → has q (xs ++ ys) ≡ true → (has q xs ≡ true) ⊎ (has q ys ≡ true)
one_of q xs ys e = by (has q xs) refl (sym (has_append q xs ys) ∙ e)
  where
    by : (b : Bool) → has q xs ≡ b → (has q xs || has q ys) ≡ true → (has q xs ≡ true) ⊎ (has q ys ≡ true)
    by true h f = inl h
    by false h f = inr (sym (ap (λ b. b || has q ys) h) ∙ f)

in_left : (q : ℕ) (xs ys : List ℕ) → has q xs ≡ true → has q (xs ++ ys) ≡ true
in_left q xs ys e = has_append q xs ys ∙ or_left (has q xs) (has q ys) e

in_right : (q : ℕ) (xs ys : List ℕ) → has q ys ≡ true → has q (xs ++ ys) ≡ true
in_right q xs ys e = has_append q xs ys ∙ or_right (has q xs) (has q ys) e

in_each : (f : ℕ → List ℕ) (q : ℕ) (xs : List ℕ) → has q (flat_map f xs) ≡ true → Passes (λ x. has q (f x)) xs
in_each f q [] e = none_in q e
in_each f q (x ∷ xs) e = by (one_of q (f x) (flat_map f xs) e) (in_each f q xs)
  where
    behind : Passes (λ y. has q (f y)) xs → Passes (λ y. has q (f y)) (x ∷ xs)
    behind p = (p.0, or_right (x == p.0) (has p.0 xs) p.1, p.2)

    by : (has q (f x) ≡ true) ⊎ (has q (flat_map f xs) ≡ true) → (has q (flat_map f xs) ≡ true → Passes (λ y. has q (f y)) xs) → Passes (λ y. has q (f y)) (x ∷ xs)
    by (inl h) rest = (x, or_left (x == x) (has x xs) (itself x), h)
    by (inr h) rest = behind (rest h)

of_each : (f : ℕ → List ℕ) (q x : ℕ) (xs : List ℕ) → has x xs ≡ true → has q (f x) ≡ true → has q (flat_map f xs) ≡ true
of_each f q x [] e h = none_in x e
of_each f q x (y ∷ xs) e h = by (y == x) refl (λ i. of_each f q x xs i h)
  where
    by : (b : Bool) → (y == x) ≡ b → (has x xs ≡ true → has q (flat_map f xs) ≡ true) → has q (flat_map f (y ∷ xs)) ≡ true
    by true s rest = in_left q (f y) (flat_map f xs) (ap (λ z. has q (f z)) (same_of y x s) ∙ h)
    by false s rest = in_right q (f y) (flat_map f xs) (rest (sym (ap (λ b. b || has x xs) s) ∙ e))

-- ---- what is seen when places are marked

marked-set : (seen : List Bool) (q r : ℕ) → slice_get seen q ≡ Some false → marked (slice_set seen q true) r ≡ (if q == r then true else marked seen r)
marked-set [] q r e = absurd (none-some false e)
marked-set (b ∷ seen) zero zero e = refl
marked-set (b ∷ seen) zero (suc r) e = let apart : (zero == suc r) ≡ false = grind (arith, nat_tests) in rw apart refl
marked-set (b ∷ seen) (suc q) zero e = let apart : (suc q == zero) ≡ false = grind (arith, nat_tests) in rw apart refl
marked-set (b ∷ seen) (suc q) (suc r) e = let same : (suc q == suc r) ≡ (q == r) = grind (arith, nat_tests) in rw same (marked-set seen q r e)

length-set : (seen : List Bool) (q : ℕ) → length (slice_set seen q true) ≡ length seen
length-set [] q = refl
length-set (b ∷ seen) zero = refl
length-set (b ∷ seen) (suc q) = ap suc (length-set seen q)

-- after some places were marked
pub record Adds (seen : List Bool) (front : List ℕ) (places : List ℕ) (after : List Bool × List ℕ) : Type 0 where
  pub size : length after.0 ≡ length seen
  pub kept : (q : ℕ) → marked seen q ≡ true → marked after.0 q ≡ true
  pub new : (q : ℕ) → marked after.0 q ≡ true → (marked seen q ≡ true) ⊎ (has q after.1 ≡ true)
  pub covers : (q : ℕ) → has q places ≡ true → q < length seen → marked after.0 q ≡ true
  pub from : (q : ℕ) → has q after.1 ≡ true → (has q front ≡ true) ⊎ (has q places ≡ true)
  pub stays : (q : ℕ) → has q front ≡ true → has q after.1 ≡ true
  pub shown : (q : ℕ) → has q after.1 ≡ true → (has q front ≡ true) ⊎ (marked after.0 q ≡ true)

adds_none : (seen : List Bool) (front : List ℕ) → Adds seen front [] (seen, front)
adds_none seen front = record {
  size = refl;
  kept = λ q h. h;
  new = λ q h. inl h;
  covers = λ q h low. none_in q h;
  from = λ q h. inl h;
  stays = λ q h. h;
  shown = λ q h. inl h;
}

-- one place that is marked, or isn't there
only_one : (q r : ℕ) → has r (q ∷ []) ≡ true → q ≡ r
only_one q r h = by (one_of r (q ∷ []) [] h)
  where
    by : (has r (q ∷ []) ≡ true) ⊎ (has r [] ≡ true) → q ≡ r
    by (inl e) = here (q == r) refl e
      where
        here : (b : Bool) → (q == r) ≡ b → (b || false) ≡ true → q ≡ r
        here true s f = same_of q r s
        here false s f = true_or_false false f refl
    by (inr e) = none_in r e

adds_known : (seen : List Bool) (front : List ℕ) (q : ℕ) → (q < length seen → marked seen q ≡ true) → Adds seen front (q ∷ []) (seen, front)
adds_known seen front q known = record {
  size = refl;
  kept = λ r h. h;
  new = λ r h. inl h;
  covers = λ r h low. let same = only_one q r h in subst (λ n. marked seen n ≡ true) same (known (subst (λ n. n < length seen) (sym same) low));
  from = λ r h. inl h;
  stays = λ r h. h;
  shown = λ r h. inl h;
}

adds_new : (seen : List Bool) (front : List ℕ) (q : ℕ) → slice_get seen q ≡ Some false → Adds seen front (q ∷ []) (slice_set seen q true, front ++ q ∷ [])
adds_new seen front q there = record {
  size = length-set seen q;
  kept = λ r h. marked-set seen q r there ∙ by_kept r h (q == r);
  new = λ r h. by_new r (q == r) refl (sym (marked-set seen q r there) ∙ h);
  covers = λ r h low. marked-set seen q r there ∙ ap (λ b. if b then true else marked seen r) (ap (λ n. q == n) (sym (only_one q r h)) ∙ itself q);
  from = λ r h. one_of r front (q ∷ []) h;
  stays = λ r h. in_left r front (q ∷ []) h;
  shown = λ r h. by_shown r (one_of r front (q ∷ []) h);
}
  where
    by_kept : (r : ℕ) → marked seen r ≡ true → (b : Bool) → (if b then true else marked seen r) ≡ true
    by_kept r h true = refl
    by_kept r h false = h

    by_new : (r : ℕ) (b : Bool) → (q == r) ≡ b → (if b then true else marked seen r) ≡ true → (marked seen r ≡ true) ⊎ (has r (front ++ q ∷ []) ≡ true)
    by_new r true s h = inr (in_right r front (q ∷ []) (or_left (q == r) false s))
    by_new r false s h = inl h

    by_shown : (r : ℕ) → (has r front ≡ true) ⊎ (has r (q ∷ []) ≡ true) → (has r front ≡ true) ⊎ (marked (slice_set seen q true) r ≡ true)
    by_shown r (inl h) = inl h
    by_shown r (inr h) = inr (marked-set seen q r there ∙ ap (λ b. if b then true else marked seen r) (ap (λ n. q == n) (sym (only_one q r h)) ∙ itself q))

not_there : (seen : List Bool) (q : ℕ) → slice_get seen q ≡ None → q < length seen → ⊥
not_there [] q e low = omega (arith, low)
not_there (b ∷ seen) zero e low = none-some b (sym e)
not_there (b ∷ seen) (suc q) e low = not_there seen q e (omega (arith, low))

adds_one : (seen : List Bool) (front : List ℕ) (q : ℕ) → Adds seen front (q ∷ []) (mark (seen, front) q)
adds_one seen front q = by (slice_get seen q) refl
  where
    by : (o : Option Bool) → slice_get seen q ≡ o → Adds seen front (q ∷ []) (mark_if o (seen, front) q)
    by None e = adds_known seen front q (λ low. absurd (not_there seen q e low))
    by (Some true) e = adds_known seen front q (λ low. ap is_marked e)
    by (Some false) e = adds_new seen front q e

adds_then : (seen : List Bool) (front ps qs : List ℕ) (s t : List Bool × List ℕ) → Adds seen front ps s → Adds s.0 s.1 qs t → Adds seen front (ps ++ qs) t
adds_then seen front ps qs s t a b = record {
  size = b.size ∙ a.size;
  kept = λ q h. b.kept q (a.kept q h);
  new = λ q h. by_new q (b.new q h);
  covers = λ q h low. by_covers q low (one_of q ps qs h);
  from = λ q h. by_from q (b.from q h);
  stays = λ q h. b.stays q (a.stays q h);
  shown = λ q h. by_shown q (b.shown q h);
}
  where
    by_new2 : (q : ℕ) → (marked seen q ≡ true) ⊎ (has q s.1 ≡ true) → (marked seen q ≡ true) ⊎ (has q t.1 ≡ true)
    by_new2 q (inl h) = inl h
    by_new2 q (inr h) = inr (b.stays q h)

    by_new : (q : ℕ) → (marked s.0 q ≡ true) ⊎ (has q t.1 ≡ true) → (marked seen q ≡ true) ⊎ (has q t.1 ≡ true)
    by_new q (inl h) = by_new2 q (a.new q h)
    by_new q (inr h) = inr h

    by_covers : (q : ℕ) → q < length seen → (has q ps ≡ true) ⊎ (has q qs ≡ true) → marked t.0 q ≡ true
    by_covers q low (inl h) = b.kept q (a.covers q h low)
    by_covers q low (inr h) = b.covers q h (subst (λ n. q < n) (sym a.size) low)

    by_from2 : (q : ℕ) → (has q front ≡ true) ⊎ (has q ps ≡ true) → (has q front ≡ true) ⊎ (has q (ps ++ qs) ≡ true)
    by_from2 q (inl h) = inl h
    by_from2 q (inr h) = inr (in_left q ps qs h)

    by_from : (q : ℕ) → (has q s.1 ≡ true) ⊎ (has q qs ≡ true) → (has q front ≡ true) ⊎ (has q (ps ++ qs) ≡ true)
    by_from q (inl h) = by_from2 q (a.from q h)
    by_from q (inr h) = inr (in_right q ps qs h)

    by_shown2 : (q : ℕ) → (has q front ≡ true) ⊎ (marked s.0 q ≡ true) → (has q front ≡ true) ⊎ (marked t.0 q ≡ true)
    by_shown2 q (inl h) = inl h
    by_shown2 q (inr h) = inr (b.kept q h)

    by_shown : (q : ℕ) → (has q s.1 ≡ true) ⊎ (marked t.0 q ≡ true) → (has q front ≡ true) ⊎ (marked t.0 q ≡ true)
    by_shown q (inl h) = by_shown2 q (a.shown q h)
    by_shown q (inr h) = inr h

pub adds : (seen : List Bool) (front places : List ℕ) → Adds seen front places (fold mark (seen, front) places)
adds seen front [] = adds_none seen front
adds seen front (q ∷ places) =
    let s = mark (seen, front) q in
    adds_then seen front (q ∷ []) places s (fold mark s places) (adds_one seen front q) (adds s.0 s.1 places)

-- ---- ways

module _ (parts : List (List ℕ)) (to : ℕ) where
  -- where the search stands with so many steps left
  pub record Stands (from : List ℕ) (seen : List Bool) (front : List ℕ) (left : ℕ) : Type 0 where
    pub size : length seen ≡ length parts
    pub steps : left ≤ length parts
    pub ahead : marked seen to ≡ true → has to front ≡ true
    pub closed : (q r : ℕ) → marked seen q ≡ true → has q front ≡ false → has r (parts_at parts q) ≡ true → r < length parts → marked seen r ≡ true
    pub shown : (q : ℕ) → has q front ≡ true → marked seen q ≡ true
    pub same : list_any (leads parts to left) front ≡ list_any (leads parts to (length parts)) from

module _ (parts : List (List ℕ)) (to : ℕ) (low : to < length parts) where
  further : (n q : ℕ) → leads parts to n q ≡ true → leads parts to (suc n) q ≡ true
  further zero q e = ap (λ b. if b then true else list_any (leads parts to zero) (parts_at parts q)) e
  further (suc n) q e = by (q == to) e (further n)
    where
      more : ((r : ℕ) → leads parts to n r ≡ true → leads parts to (suc n) r ≡ true) → Passes (leads parts to n) (parts_at parts q) → list_any (leads parts to (suc n)) (parts_at parts q) ≡ true
      more one p = any_to (leads parts to (suc n)) (parts_at parts q) p.0 p.1 (one p.0 p.2)

      by : (b : Bool) → (if b then true else list_any (leads parts to n) (parts_at parts q)) ≡ true → ((r : ℕ) → leads parts to n r ≡ true → leads parts to (suc n) r ≡ true) → (if b then true else list_any (leads parts to (suc n)) (parts_at parts q)) ≡ true
      by true h one = refl
      by false h one = more one (any_from (leads parts to n) (parts_at parts q) h)

  -- a type that leads to another is one
  inside : (n q : ℕ) → leads parts to n q ≡ true → q < length parts
  inside zero q e = subst (λ k. k < length parts) (sym (same_of q to e)) low
  inside (suc n) q e = by (q == to) refl e
    where
      beyond : length parts ≤ q → list_any (leads parts to n) (parts_at parts q) ≡ false
      beyond high = ap (λ o. list_any (leads parts to n) (or_none o)) (slice_get_past parts q high)

      other : list_any (leads parts to n) (parts_at parts q) ≡ true → (q < length parts) ⊎ (length parts ≤ q) → q < length parts
      other h (inl l) = l
      other h (inr high) = true_or_false (list_any (leads parts to n) (parts_at parts q)) h (beyond high)

      by : (b : Bool) → (q == to) ≡ b → (if b then true else list_any (leads parts to n) (parts_at parts q)) ≡ true → q < length parts
      by true s h = subst (λ k. k < length parts) (sym (same_of q to s)) low
      by false s h = other h (cases_lt q (length parts))

  -- a way out of what was seen goes through the next front
  escape : (seen : ℕ → Bool) (next : List ℕ) → ((s r : ℕ) → seen s ≡ true → has r (parts_at parts s) ≡ true → r < length parts → (seen r ≡ true) ⊎ (has r next ≡ true)) → seen to ≡ false →
      (n s : ℕ) → seen s ≡ true → leads parts to n s ≡ true → list_any (leads parts to n) next ≡ true
  escape seen next closed away zero s is e = true_or_false (seen to) (ap seen (sym (same_of s to e)) ∙ is) away
  escape seen next closed away (suc n) s is e = by (s == to) refl e (escape seen next closed away n)
    where
      Rest : Type 0
      Rest = (r : ℕ) → seen r ≡ true → leads parts to n r ≡ true → list_any (leads parts to n) next ≡ true

      all_further : Passes (leads parts to n) next → list_any (leads parts to (suc n)) next ≡ true
      all_further p = any_to (leads parts to (suc n)) next p.0 p.1 (further n p.0 p.2)

      on : Rest → (r : ℕ) → leads parts to n r ≡ true → (seen r ≡ true) ⊎ (has r next ≡ true) → list_any (leads parts to (suc n)) next ≡ true
      on rest r h (inl old) = all_further (any_from (leads parts to n) next (rest r old h))
      on rest r h (inr new) = any_to (leads parts to (suc n)) next r new (further n r h)

      way : Rest → Passes (leads parts to n) (parts_at parts s) → list_any (leads parts to (suc n)) next ≡ true
      way rest p = on rest p.0 p.2 (closed s p.0 is p.1 (inside n p.0 p.2))

      by : (b : Bool) → (s == to) ≡ b → (if b then true else list_any (leads parts to n) (parts_at parts s)) ≡ true → Rest → list_any (leads parts to (suc n)) next ≡ true
      by true f h rest = true_or_false (seen to) (ap seen (sym (same_of s to f)) ∙ is) away
      by false f h rest = way rest (any_from (leads parts to n) (parts_at parts s) h)

  pub here_now : (n : ℕ) (front : List ℕ) → has to front ≡ true → list_any (leads parts to n) front ≡ true
  here_now n front in_ = any_to (leads parts to n) front to in_ (at_once n)
    where
      at_once : (k : ℕ) → leads parts to k to ≡ true
      at_once zero = itself to
      at_once (suc k) = ap (λ b. if b then true else list_any (leads parts to k) (parts_at parts to)) (itself to)

  pub first_stand : (from : List ℕ) (none after : List Bool) (front : List ℕ) → length none ≡ length parts → ((q : ℕ) → marked none q ≡ false) → (after, front) ≡ fold mark (none, []) from → Stands parts to from after front (length parts)
  first_stand from none after front size empty is = record {
    size = a.size ∙ size;
    steps = omega arith;
    ahead = λ h. in_front to h;
    closed = λ q r h out part inner. true_or_false (has q front) (in_front q h) out;
    shown = λ q h. seen_now q (a.shown q h);
    same = both_ways (list_any (leads parts to (length parts)) front) (list_any (leads parts to (length parts)) from) (λ e. to_from (any_from _ front e)) (λ e. to_front (any_from _ from e));
  }
    where
      a : Adds none [] from (after, front)
      a = subst (Adds none [] from) (sym is) (adds none [] from)

      in_front : (q : ℕ) → marked after q ≡ true → has q front ≡ true
      in_front q h = by (a.new q h)
        where
          by : (marked none q ≡ true) ⊎ (has q front ≡ true) → has q front ≡ true
          by (inl m) = true_or_false (marked none q) m (empty q)
          by (inr f) = f

      seen_now : (q : ℕ) → (has q [] ≡ true) ⊎ (marked after q ≡ true) → marked after q ≡ true
      seen_now q (inl h) = none_in q h
      seen_now q (inr h) = h

      to_from : Passes (leads parts to (length parts)) front → list_any (leads parts to (length parts)) from ≡ true
      to_from p = by (a.from p.0 p.1)
        where
          by : (has p.0 [] ≡ true) ⊎ (has p.0 from ≡ true) → list_any (leads parts to (length parts)) from ≡ true
          by (inl h) = none_in p.0 h
          by (inr h) = any_to (leads parts to (length parts)) from p.0 h p.2

      to_front : Passes (leads parts to (length parts)) from → list_any (leads parts to (length parts)) front ≡ true
      to_front p = any_to (leads parts to (length parts)) front p.0 (in_front p.0 (a.covers p.0 p.1 (subst (λ n. p.0 < n) (sym size) (inside (length parts) p.0 p.2)))) p.2

  module _ (from : List ℕ) (seen : List Bool) (front : List ℕ) (n : ℕ) (s : Stands parts to from seen front (suc n)) (not_here : has to front ≡ false) (after : List Bool) (next : List ℕ) (is : (after, next) ≡ fold mark (seen, []) (flat_map (parts_at parts) front)) where
    a : Adds seen [] (flat_map (parts_at parts) front) (after, next)
    a = subst (Adds seen [] (flat_map (parts_at parts) front)) (sym is) (adds seen [] (flat_map (parts_at parts) front))

    away : marked seen to ≡ false
    away = by (marked seen to) refl
      where
        by : (b : Bool) → marked seen to ≡ b → marked seen to ≡ false
        by true e = true_or_false (has to front) (s.ahead e) not_here
        by false e = e

    on : (q r : ℕ) → marked seen q ≡ true → has r (parts_at parts q) ≡ true → r < length parts → (marked seen r ≡ true) ⊎ (has r next ≡ true)
    on q r h part inner = by (has q front) refl
      where
        by : (b : Bool) → has q front ≡ b → (marked seen r ≡ true) ⊎ (has r next ≡ true)
        by true f = a.new r (a.covers r (of_each (parts_at parts) r q front f part) (subst (λ k. r < k) (sym s.size) inner))
        by false f = inl (s.closed q r h f part inner)

    came : (r : ℕ) → has r next ≡ true → has r (flat_map (parts_at parts) front) ≡ true
    came r h = by (a.from r h)
      where
        by : (has r [] ≡ true) ⊎ (has r (flat_map (parts_at parts) front) ≡ true) → has r (flat_map (parts_at parts) front) ≡ true
        by (inl f) = none_in r f
        by (inr f) = f

    lit : (r : ℕ) → (has r [] ≡ true) ⊎ (marked after r ≡ true) → marked after r ≡ true
    lit r (inl h) = none_in r h
    lit r (inr h) = h

    known : (r : ℕ) → (marked seen r ≡ true) ⊎ (has r next ≡ true) → marked after r ≡ true
    known r (inl h) = a.kept r h
    known r (inr h) = lit r (a.shown r h)

    forth : list_any (leads parts to (suc n)) front ≡ true → list_any (leads parts to n) next ≡ true
    forth e = first (any_from (leads parts to (suc n)) front e)
      where
        go : (q r : ℕ) → leads parts to n r ≡ true → (marked seen r ≡ true) ⊎ (has r next ≡ true) → list_any (leads parts to n) next ≡ true
        go q r h (inl old) = escape (marked seen) next on away n r old h
        go q r h (inr new) = any_to (leads parts to n) next r new h

        part : (q : ℕ) → has q front ≡ true → Passes (leads parts to n) (parts_at parts q) → list_any (leads parts to n) next ≡ true
        part q f p = go q p.0 p.2 (on q p.0 (s.shown q f) p.1 (inside n p.0 p.2))

        first : Passes (leads parts to (suc n)) front → list_any (leads parts to n) next ≡ true
        first p = by (p.0 == to) refl p.2
          where
            by : (b : Bool) → (p.0 == to) ≡ b → (if b then true else list_any (leads parts to n) (parts_at parts p.0)) ≡ true → list_any (leads parts to n) next ≡ true
            by true f h = true_or_false (has to front) (subst (λ k. has k front ≡ true) (same_of p.0 to f) p.1) not_here
            by false f h = part p.0 p.1 (any_from (leads parts to n) (parts_at parts p.0) h)

    back : list_any (leads parts to n) next ≡ true → list_any (leads parts to (suc n)) front ≡ true
    back e = first (any_from (leads parts to n) next e)
      where
        one : (q r : ℕ) → has r (parts_at parts q) ≡ true → leads parts to n r ≡ true → leads parts to (suc n) q ≡ true
        one q r part h = by (q == to)
          where
            by : (b : Bool) → (if b then true else list_any (leads parts to n) (parts_at parts q)) ≡ true
            by true = refl
            by false = any_to (leads parts to n) (parts_at parts q) r part h

        whence : (r : ℕ) → leads parts to n r ≡ true → Passes (λ q. has r (parts_at parts q)) front → list_any (leads parts to (suc n)) front ≡ true
        whence r h p = any_to (leads parts to (suc n)) front p.0 p.1 (one p.0 r p.2 h)

        first : Passes (leads parts to n) next → list_any (leads parts to (suc n)) front ≡ true
        first p = whence p.0 p.2 (in_each (parts_at parts) p.0 front (came p.0 p.1))

    pub next_stand : Stands parts to from after next n
    next_stand = record {
      size = a.size ∙ s.size;
      steps = omega (arith, s.steps);
      ahead = λ h. ahead_next (a.new to h);
      closed = λ q r h out part inner. closed_next q r out part inner (a.new q h);
      shown = λ q h. lit q (a.shown q h);
      same = both_ways (list_any (leads parts to n) next) (list_any (leads parts to (suc n)) front) back forth ∙ s.same;
    }
      where
        ahead_next : (marked seen to ≡ true) ⊎ (has to next ≡ true) → has to next ≡ true
        ahead_next (inl h) = true_or_false (marked seen to) h away
        ahead_next (inr h) = h

        closed_next : (q r : ℕ) → has q next ≡ false → has r (parts_at parts q) ≡ true → r < length parts → (marked seen q ≡ true) ⊎ (has q next ≡ true) → marked after r ≡ true
        closed_next q r out part inner (inl h) = known r (on q r h part inner)
        closed_next q r out part inner (inr h) = true_or_false (has q next) h out
