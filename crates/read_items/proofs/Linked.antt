-- Items of which one can begin the next are read as they are spelled.
use Rattle.std.proofs.Common.{◌≡◌, ℕ, zero, suc, ◌<◌, ◌≤◌, List, [], ◌∷◌, ◌++◌, length, Option, Some, None, Result, Ok, Err, Bool, true, false, refl, sym, ap, ◌∙◌, subst, append_assoc, arith}
use Rattle.ir_core.specs.Tokens.{Lexeme}
use Rattle.ir_core.specs.Spell.{SameNext}
use Rattle.read_forms.specs.Read.{Read, then_read, head, put_all, Shrinks}
use Rattle.read_forms.proofs.Readers.{Taken, Halted, same_front, same_head, ok_parts, ok_not_err, err_is}
use Rattle.read_items.specs.Linked.{Linked, link_goes, link, links, linked_at}

-- one value before those that come of more
abbrev pub put : {X : Type 0} → X → Result (List X × List Lexeme) ℕ → Result (List X × List Lexeme) ℕ
put x a = then_read a (λ xs s. Ok (x ∷ xs, s))

module _ {X A : Type 0} (p : Option Lexeme → Bool) (f : Option A → Read (X × Option A)) (shrinks : (a : Option A) → Shrinks (f a)) where
  -- ---- any count that suffices gives the same

  abbrev more_of : ℕ → Result ((X × Option A) × List Lexeme) ℕ → Result (List X × List Lexeme) ℕ
  more_of n a = then_read a (λ x r. then_read (links p f n x.1 r) (λ xs s. Ok (x.0 ∷ xs, s)))

  link_same : (n m : ℕ) (a : Option A) (ts : List Lexeme) → ((b : Option A) (rest : List Lexeme) → length rest < length ts → links p f n b rest ≡ links p f m b rest) → (c : Bool) (q : Result ((X × Option A) × List Lexeme) ℕ) → f a ts ≡ q → link c (f a) (links p f n) ts ≡ link c (f a) (links p f m) ts
  link_same n m a ts h false q e = refl
  link_same n m a ts h true (Err k) e = ap (more_of n) e ∙ sym (ap (more_of m) e)
  link_same n m a ts h true (Ok q) e =
      ap (more_of n) e
      ∙ ap (λ (r : Result (List X × List Lexeme) ℕ). then_read r (λ xs s. Ok (q.0.0 ∷ xs, s))) (h q.0.1 q.1 (shrinks a ts q.0 q.1 e))
      ∙ sym (ap (more_of m) e)

  links_same : (n m : ℕ) (a : Option A) (ts : List Lexeme) → length ts < n → length ts < m → links p f n a ts ≡ links p f m a ts
  links_same zero m a ts h k = absurd (omega arith)
  links_same (suc n) zero a ts h k = absurd (omega arith)
  links_same (suc n) (suc m) a ts h k = link_same n m a ts (λ b rest l. links_same n m b rest (omega arith) (omega arith)) (link_goes p a (head ts)) (f a ts) refl

  -- ---- one turn

  pub linked_stops : (ts : List Lexeme) → p (head ts) ≡ false → linked_at p f None ts ≡ Ok ([], ts)
  unfolding linked_at
  linked_stops ts s = ap (λ (c : Bool). link c (f None) (links p f (length ts)) ts) s

  pub linked_step : (a b : Option A) (ts : List Lexeme) (x : X) (rest : List Lexeme) → link_goes p a (head ts) ≡ true → f a ts ≡ Ok ((x, b), rest) → linked_at p f a ts ≡ put x (linked_at p f b rest)
  unfolding linked_at
  linked_step a b ts x rest g e =
      ap (λ (c : Bool). link c (f a) (links p f (length ts)) ts) g
      ∙ ap (more_of (length ts)) e
      ∙ ap (put x) (links_same (length ts) (suc (length rest)) b rest (shrinks a ts (x, b) rest e) (omega arith))

  pub linked_fails : (a : Option A) (ts : List Lexeme) (n : ℕ) → link_goes p a (head ts) ≡ true → f a ts ≡ Err n → linked_at p f a ts ≡ Err n
  unfolding linked_at
  linked_fails a ts n g e = ap (λ (c : Bool). link c (f a) (links p f (length ts)) ts) g ∙ ap (more_of (length ts)) e

  -- ---- a loop, after what it has read

  put_all_put : (out : List X) (x : X) (r : Result (List X × List Lexeme) ℕ) → put_all out (put x r) ≡ put_all (out ++ x ∷ []) r
  put_all_put out x (Ok q) = ap (λ (l : List _). Ok (l, q.1)) (sym (append_assoc out (x ∷ []) q.0))
  put_all_put out x (Err n) = refl

  module _ (whole : Result (List X × List Lexeme) ℕ) (out : List X) (a : Option A) (rest : List Lexeme) (so_far : whole ≡ put_all out (linked_at p f a rest)) where
    pub loop_more : (b : Option A) (after : List Lexeme) (x : X) → link_goes p a (head rest) ≡ true → f a rest ≡ Ok ((x, b), after) → whole ≡ put_all (out ++ x ∷ []) (linked_at p f b after)
    loop_more b after x g e = so_far ∙ ap (put_all out) (linked_step a b rest x after g e) ∙ put_all_put out x (linked_at p f b after)

  -- ---- what is read so is spelled so

  module _ (S : Option A → List Lexeme → X × Option A → Type 0)
      (takes : (a : Option A) (ts : List Lexeme) (x : X × Option A) (rest : List Lexeme) → f a ts ≡ Ok (x, rest) → Taken (f a) (S a) ts x rest)
      (halts : (a : Option A) (ts : List Lexeme) (n : ℕ) → f a ts ≡ Err n → Halted (f a) (S a) ts n)
      (ends : (a : Option A) → (ts : List Lexeme) × (xs : List X) × Linked S a ts xs) where
    abbrev pub LinkedTaken : Option A → List Lexeme → List X → List Lexeme → Type 0
    LinkedTaken a ts xs rest = Taken (linked_at p f a) (Linked S a) ts xs rest

    abbrev pub LinkedHalted : Option A → List Lexeme → ℕ → Type 0
    LinkedHalted a ts n = Halted (linked_at p f a) (Linked S a) ts n

    goes_on : (a : Option A) (ts front rest other : List Lexeme) → ts ≡ front ++ rest → SameNext rest other → link_goes p a (head ts) ≡ true → link_goes p a (head (front ++ other)) ≡ true
    goes_on a ts front rest other is s g = ap (link_goes p a) (sym (ap head is ∙ same_head (front ++ rest) (front ++ other) (same_front front rest other s))) ∙ g

    takes_more : (a b : Option A) (ts : List Lexeme) (x : X) (after : List Lexeme) → link_goes p a (head ts) ≡ true → f a ts ≡ Ok ((x, b), after) → (w : Result (List X × List Lexeme) ℕ) → linked_at p f b after ≡ w → ((ys : List X) (rest : List Lexeme) → linked_at p f b after ≡ Ok (ys, rest) → LinkedTaken b after ys rest) → (xs : List X) (rest : List Lexeme) → put x w ≡ Ok (xs, rest) → LinkedTaken a ts xs rest
    takes_more a b ts x after g e (Err n) k h xs rest o = absurd (ok_not_err (xs, rest) n (sym o))
    takes_more a b ts x after g e (Ok w) k h xs rest o =
        let q = ok_parts (x ∷ w.0) xs w.1 rest o in
        let u = takes a ts (x, b) after e in
        let v = h w.0 rest (k ∙ ap (λ (l : List Lexeme). Ok (w.0, l)) q.1) in
        record {
          front = u.front ++ v.front;
          is = u.is ∙ ap (λ (l : List Lexeme). u.front ++ l) v.is ∙ sym (append_assoc u.front v.front rest);
          spelled = subst (Linked S a (u.front ++ v.front)) q.0 (b, u.front, v.front, u.spelled, v.spelled, refl);
          same = λ other s.
              let next = subst (λ l. SameNext l (v.front ++ other)) (sym v.is) (same_front v.front rest other s) in
              ap (linked_at p f a) (append_assoc u.front v.front other)
              ∙ linked_step a b (u.front ++ (v.front ++ other)) x (v.front ++ other) (goes_on a ts u.front after (v.front ++ other) u.is next g) (u.same (v.front ++ other) next)
              ∙ ap (put x) (v.same other s)
              ∙ ap (λ (l : List X). Ok (l, other)) q.0;
        }

    stops_at : (ts : List Lexeme) → p (head ts) ≡ false → (xs : List X) (rest : List Lexeme) → linked_at p f None ts ≡ Ok (xs, rest) → LinkedTaken None ts xs rest
    stops_at ts g xs rest k =
        let q = ok_parts [] xs ts rest (sym (linked_stops ts g) ∙ k) in
        record {
          front = [];
          is = q.1;
          spelled = subst (Linked S None []) q.0 (refl, refl);
          same = λ other s. linked_stops other (ap p (sym (same_head ts other (subst (λ l. SameNext l other) (sym q.1) s))) ∙ g) ∙ ap (λ (l : List X). Ok (l, other)) q.0;
        }

    takes_by : (a : Option A) (ts : List Lexeme) → ((b : Option A) (after : List Lexeme) → length after < length ts → (ys : List X) (rest : List Lexeme) → linked_at p f b after ≡ Ok (ys, rest) → LinkedTaken b after ys rest) → (c : Bool) → link_goes p a (head ts) ≡ c → (q : Result ((X × Option A) × List Lexeme) ℕ) → f a ts ≡ q → (xs : List X) (rest : List Lexeme) → linked_at p f a ts ≡ Ok (xs, rest) → LinkedTaken a ts xs rest
    takes_by None ts h false g q e xs rest k = stops_at ts g xs rest k
    takes_by (Some a) ts h false g q e xs rest k = let l : true ≡ false = g in absurd (cc)
    takes_by a ts h true g (Err n) e xs rest k = absurd (ok_not_err (xs, rest) n (sym k ∙ linked_fails a ts n g e))
    takes_by a ts h true g (Ok q) e xs rest k = takes_more a q.0.1 ts q.0.0 q.1 g e (linked_at p f q.0.1 q.1) refl (h q.0.1 q.1 (shrinks a ts q.0 q.1 e)) xs rest (sym (linked_step a q.0.1 ts q.0.0 q.1 g e) ∙ k)

    takes_in : (n : ℕ) (a : Option A) (ts : List Lexeme) → length ts ≤ n → (xs : List X) (rest : List Lexeme) → linked_at p f a ts ≡ Ok (xs, rest) → LinkedTaken a ts xs rest
    takes_in zero a ts l xs rest k = takes_by a ts (λ b after m. absurd (omega arith)) (link_goes p a (head ts)) refl (f a ts) refl xs rest k
    takes_in (suc n) a ts l xs rest k = takes_by a ts (λ b after m. takes_in n b after (omega arith)) (link_goes p a (head ts)) refl (f a ts) refl xs rest k

    pub linked_takes : (a : Option A) (ts : List Lexeme) (xs : List X) (rest : List Lexeme) → linked_at p f a ts ≡ Ok (xs, rest) → LinkedTaken a ts xs rest
    linked_takes a ts xs rest k = takes_in (length ts) a ts (omega arith) xs rest k

    halts_more : (a b : Option A) (ts : List Lexeme) (x : X) (after : List Lexeme) → link_goes p a (head ts) ≡ true → f a ts ≡ Ok ((x, b), after) → (w : Result (List X × List Lexeme) ℕ) → linked_at p f b after ≡ w → ((n : ℕ) → linked_at p f b after ≡ Err n → LinkedHalted b after n) → (n : ℕ) → put x w ≡ Err n → LinkedHalted a ts n
    halts_more a b ts x after g e (Ok w) k h n o = absurd (ok_not_err (x ∷ w.0, w.1) n o)
    halts_more a b ts x after g e (Err m) k h n o =
        let u = takes a ts (x, b) after e in
        let v = h n (k ∙ ap Err (err_is m n o)) in
        record {
          front = u.front ++ v.front;
          rest = v.rest;
          is = u.is ∙ ap (λ (l : List Lexeme). u.front ++ l) v.is ∙ sym (append_assoc u.front v.front v.rest);
          left = v.left;
          more = v.more;
          value = x ∷ v.value;
          goes_on = (b, u.front, v.front ++ v.more, u.spelled, v.goes_on, append_assoc u.front v.front v.more);
          same = λ other s.
              let next = subst (λ l. SameNext l (v.front ++ other)) (sym v.is) (same_front v.front v.rest other s) in
              ap (linked_at p f a) (append_assoc u.front v.front other)
              ∙ linked_step a b (u.front ++ (v.front ++ other)) x (v.front ++ other) (goes_on a ts u.front after (v.front ++ other) u.is next g) (u.same (v.front ++ other) next)
              ∙ ap (put x) (v.same other s);
        }

    halts_first : (a : Option A) (ts : List Lexeme) → link_goes p a (head ts) ≡ true → (n : ℕ) → f a ts ≡ Err n → LinkedHalted a ts n
    halts_first a ts g n e =
        let u = halts a ts n e in
        let v = ends u.value.1 in
        record {
          front = u.front;
          rest = u.rest;
          is = u.is;
          left = u.left;
          more = u.more ++ v.0;
          value = u.value.0 ∷ v.1;
          goes_on = (u.value.1, u.front ++ u.more, v.0, u.goes_on, v.2, sym (append_assoc u.front u.more v.0));
          same = λ other s. linked_fails a (u.front ++ other) (length other) (goes_on a ts u.front u.rest other u.is s g) (u.same other s);
        }

    halts_by : (a : Option A) (ts : List Lexeme) → ((b : Option A) (after : List Lexeme) → length after < length ts → (n : ℕ) → linked_at p f b after ≡ Err n → LinkedHalted b after n) → (c : Bool) → link_goes p a (head ts) ≡ c → (q : Result ((X × Option A) × List Lexeme) ℕ) → f a ts ≡ q → (n : ℕ) → linked_at p f a ts ≡ Err n → LinkedHalted a ts n
    halts_by None ts h false g q e n k = absurd (ok_not_err ([], ts) n (sym (linked_stops ts g) ∙ k))
    halts_by (Some a) ts h false g q e n k = let l : true ≡ false = g in absurd (cc)
    halts_by a ts h true g (Err m) e n k = halts_first a ts g n (e ∙ ap Err (err_is m n (sym (linked_fails a ts m g e) ∙ k)))
    halts_by a ts h true g (Ok q) e n k = halts_more a q.0.1 ts q.0.0 q.1 g e (linked_at p f q.0.1 q.1) refl (h q.0.1 q.1 (shrinks a ts q.0 q.1 e)) n (sym (linked_step a q.0.1 ts q.0.0 q.1 g e) ∙ k)

    halts_in : (m : ℕ) (a : Option A) (ts : List Lexeme) → length ts ≤ m → (n : ℕ) → linked_at p f a ts ≡ Err n → LinkedHalted a ts n
    halts_in zero a ts l n k = halts_by a ts (λ b after o. absurd (omega arith)) (link_goes p a (head ts)) refl (f a ts) refl n k
    halts_in (suc m) a ts l n k = halts_by a ts (λ b after o. halts_in m b after (omega arith)) (link_goes p a (head ts)) refl (f a ts) refl n k

    pub linked_halts : (a : Option A) (ts : List Lexeme) (n : ℕ) → linked_at p f a ts ≡ Err n → LinkedHalted a ts n
    linked_halts a ts n k = halts_in (length ts) a ts (omega arith) n k
