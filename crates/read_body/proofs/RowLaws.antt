-- Parts behind commas, and then attachments, are read as they are spelled.
use Rattle.std.proofs.Common.{◌≡◌, ℕ, zero, suc, ◌<◌, ◌≤◌, List, [], ◌∷◌, ◌++◌, length, Option, Some, None, Bool, true, false, cond, Result, Ok, Err, refl, sym, ap, ◌∙◌, subst, inl, inr, arith, length-append, append_assoc}
use Rattle.std.proofs.lemmas.List.{append-nil}
use Rattle.ir_core.specs.declared.answers.Or.{Or}
use Rattle.ir_core.specs.declared.answers.Or.TheVariants.{Refused, Memory}
use Rattle.ir_core.specs.Tokens.{Lexeme}
use Rattle.ir_core.specs.Spell.{Spell, many, mark}
use Rattle.ir_core.specs.Spell as spell
use Rattle.ir_core.specs.Forms.{next}
use Rattle.ir_core.specs.Instructions.{attachments}
use Rattle.read_forms.specs.Read.{Read, Shrinks, then_read, ◌>>=◌, done, made, head, as_mark, at_mark, by_test, maybe_at, either_at, after_comma_at, put_all, Fails}
use Rattle.read_forms.proofs.Readers.{ok_parts, ok_not_err, Reads, Free, Begins, done_reads, then_reads, reads_before}
use Rattle.read_forms.proofs.Many.{Stops}
use Rattle.read_forms.proofs.Choices.{either}
use Rattle.read_forms.proofs.Laws.{made_reads}
use Rattle.read_ends.specs.Ends.{closed, attachment_at, attachments_at, attached_at, meta_goes, behind_comma_at}
use Rattle.read_body.specs.Rows.{row_at, rows_in, rows_at, some_at, one_row_at}
use Rattle.read_ends.proofs.Closed.{none_attached, first_attached, attached, attached_all, by_comma, by_comma_none, opened, shut}
use Rattle.read_ends.proofs.EndLaws.{by_comma_reads}
use Rattle.read_body.proofs.Fuel.{fuel_reads}

-- ---- the relation, with a bound on the number of parts
module _ {X : Type 0} (S : Spell X) where
  abbrev row : Spell (List X) → Spell (List X)
  row R = spell.◌>>=◌ S (λ x. spell.◌>>=◌ R (λ xs. spell.done (x ∷ xs)))

  abbrev bounded : ℕ → Spell (List X)
  bounded zero = spell.done []
  bounded (suc n) = by_comma [] (row (bounded n))

  abbrev all : Spell (List X)
  all = closed (many (next S))

  none_all : (ts b : List Lexeme) (xs : List X) → xs ≡ [] → ts ≡ b → attachments b tt → all ts xs
  none_all ts b xs e k s = shut (many (next S)) ts xs ([], b, subst (λ l. many (next S) [] l) (sym e) refl, s, k)

  one_all : (c r : List Lexeme) (line : ℕ) (ts : List Lexeme) (xs : List X) (h : row all r xs) → mark 44 c line → ts ≡ c ++ r → all ts xs
  one_all c r line ts xs h m e =
      let g = h.4 in
      let u = opened (many (next S)) g.1 g.0 g.3 in
      shut (many (next S)) ts xs (
        (c ++ h.1) ++ u.0,
        u.1,
        subst (λ l. many (next S) ((c ++ h.1) ++ u.0) l) (sym g.4.1) (c ++ h.1, u.0, (line, c, h.1, m, h.3, refl), u.2, refl),
        u.3,
        e ∙ ap (λ (l : List Lexeme). c ++ l) (h.5 ∙ ap (λ (l : List Lexeme). h.1 ++ l) (g.5 ∙ ap (λ (l : List Lexeme). g.1 ++ l) g.4.0 ∙ append-nil g.1 ∙ u.4))
            ∙ sym (append_assoc c h.1 (u.0 ++ u.1)) ∙ sym (append_assoc (c ++ h.1) u.0 u.1),
      )

  row_into : (n : ℕ) → ((ts : List Lexeme) (xs : List X) → bounded n ts xs → all ts xs) → (r : List Lexeme) (xs : List X) → row (bounded n) r xs → row all r xs
  row_into n h r xs s = let g = s.4 in (s.0, s.1, s.2, s.3, (g.0, g.1, g.2, h g.1 g.0 g.3, g.4, g.5), s.5)

  into_by : (n : ℕ) → ((ts : List Lexeme) (xs : List X) → bounded n ts xs → all ts xs) → (c r : List Lexeme) (line : ℕ) (ts : List Lexeme) (xs : List X) → mark 44 c line → either (attached []) (row (bounded n)) r xs → ts ≡ c ++ r → all ts xs
  into_by n h c r line ts xs m (inl s) e = let u = attached_all [] xs c r line m s in none_all ts (c ++ r) xs u.1 e u.0
  into_by n h c r line ts xs m (inr s) e = one_all c r line ts xs (row_into n h r xs s) m e

  into : (n : ℕ) (ts : List Lexeme) (xs : List X) → bounded n ts xs → all ts xs
  into zero ts xs s = none_all ts [] xs s.1 s.0 none_attached
  into (suc n) ts xs (inl s) = none_all ts [] xs s.1 s.0 none_attached
  into (suc n) ts xs (inr s) = into_by n (into n) s.1 s.2 s.0 ts xs s.3 s.4 s.5

  marked : (c : List Lexeme) (line : ℕ) → mark 44 c line → length c ≡ 1
  marked c line m = ap length m.2

  from_by : (n : ℕ) (xs : List X) (a b ts : List Lexeme) → many (next S) a xs → attachments b tt → ts ≡ a ++ b → length ts ≤ n → bounded n ts xs
  from_by zero [] a b ts m s e l = (nothing ts l, refl)
    where
      nothing : (ts : List Lexeme) → length ts ≤ 0 → ts ≡ []
      nothing [] l = refl
      nothing (t ∷ ts) l = absurd (omega arith)
  from_by (suc n) [] a b ts m s e l = none_row ts (e ∙ ap (λ (q : List Lexeme). q ++ b) m)
    where
      none_row : (ts : List Lexeme) → ts ≡ b → by_comma [] (row (bounded n)) ts []
      none_row ts k = by_comma_none [] (row (bounded n)) ts b k (first_attached b s)
  from_by zero (x ∷ xs) a b ts m s e l =
      let k = m.2 in
      let c = marked k.1 k.0 k.3 in
      let p = ap length e in let q = length-append a b in let r = ap length m.4 in let w = length-append m.0 m.1 in let v = ap length k.5 in let z = length-append k.1 k.2 in
      absurd (omega arith)
  from_by (suc n) (x ∷ xs) a b ts m s e l =
      let k = m.2 in
      let c = marked k.1 k.0 k.3 in
      let p = ap length e in let q = length-append a b in let r = ap length m.4 in let w = length-append m.0 m.1 in let v = ap length k.5 in let z = length-append k.1 k.2 in let y = length-append m.1 b in
      let more = from_by n xs m.1 b (m.1 ++ b) m.3 s refl (omega arith) in
      inr (
        k.0,
        k.1,
        k.2 ++ (m.1 ++ b),
        k.3,
        inr (x, k.2, m.1 ++ b, k.4, (xs, m.1 ++ b, [], more, (refl, refl), sym (append-nil (m.1 ++ b))), refl),
        e ∙ ap (λ (l : List Lexeme). l ++ b) (m.4 ∙ ap (λ (l : List Lexeme). l ++ m.1) k.5) ∙ append_assoc (k.1 ++ k.2) m.1 b ∙ append_assoc k.1 k.2 (m.1 ++ b),
      )

  from : (n : ℕ) (ts : List Lexeme) (xs : List X) → all ts xs → length ts ≤ n → bounded n ts xs
  from n ts xs s l = let u = opened (many (next S)) ts xs s in from_by n xs u.0 u.1 ts u.2 u.3 u.4 l

-- ---- reading
module _ {X : Type 0} (f : Read X) (shrinks : Shrinks f) where
  -- what comes of the parts behind the next comma
  abbrev behind : Read (List X) → Read (List X)
  behind g = maybe_at [] (at_mark 44) (behind_comma_at [] (row_at f g))

  module _ (g h : Read (List X)) where
    row_same : (ts : List Lexeme) → ((rest : List Lexeme) → length rest < length ts → g rest ≡ h rest) → (a : Result (X × List Lexeme) ℕ) → f ts ≡ a → row_at f g ts ≡ row_at f h ts
    unfolding row_at
    row_same ts k (Err n) e = ap (λ (r : Result (X × List Lexeme) ℕ). then_read r (λ x. g >>= λ xs. done (x ∷ xs))) e ∙ sym (ap (λ (r : Result (X × List Lexeme) ℕ). then_read r (λ x. h >>= λ xs. done (x ∷ xs))) e)
    row_same ts k (Ok p) e =
        ap (λ (r : Result (X × List Lexeme) ℕ). then_read r (λ x. g >>= λ xs. done (x ∷ xs))) e
        ∙ ap (λ (r : Result (List X × List Lexeme) ℕ). then_read r (λ xs. done (p.0 ∷ xs))) (k p.1 (shrinks ts p.0 p.1 e))
        ∙ sym (ap (λ (r : Result (X × List Lexeme) ℕ). then_read r (λ x. h >>= λ xs. done (x ∷ xs))) e)

    test_same : (ts : List Lexeme) → row_at f g ts ≡ row_at f h ts → (c : Bool) → by_test (attached_at []) (row_at f g) c ts ≡ by_test (attached_at []) (row_at f h) c ts
    test_same ts e true = refl
    test_same ts e false = e

    mark_same : (t : Lexeme) (ts : List Lexeme) → row_at f g ts ≡ row_at f h ts → (o : Option ℕ) → then_read (made o t ts) (λ comma. either_at meta_goes (attached_at []) (row_at f g)) ≡ then_read (made o t ts) (λ comma. either_at meta_goes (attached_at []) (row_at f h))
    mark_same t ts e None = refl
    mark_same t ts e (Some line) = test_same ts e (meta_goes (head ts))

    comma_same : (ts : List Lexeme) → ((rest : List Lexeme) → length rest < length ts → g rest ≡ h rest) → (c : Bool) → cond c (behind_comma_at [] (row_at f g) ts) (Ok ([], ts)) ≡ cond c (behind_comma_at [] (row_at f h) ts) (Ok ([], ts))
    unfolding behind_comma_at after_comma_at
    comma_same ts k false = refl
    comma_same [] k true = refl
    comma_same (t ∷ ts) k true = mark_same t ts (row_same ts (λ rest l. k rest (omega arith)) (f ts) refl) (as_mark 44 t)

  rows_same : (n m : ℕ) (ts : List Lexeme) → length ts ≤ n → length ts ≤ m → rows_in f n ts ≡ rows_in f m ts
  rows_same zero zero ts h k = refl
  rows_same zero (suc m) [] h k = refl
  rows_same zero (suc m) (t ∷ ts) h k = absurd (omega arith)
  rows_same (suc n) zero [] h k = refl
  rows_same (suc n) zero (t ∷ ts) h k = absurd (omega arith)
  rows_same (suc n) (suc m) ts h k = comma_same (rows_in f n) (rows_in f m) ts (λ rest l. rows_same n m rest (omega arith) (omega arith)) (at_mark 44 (head ts))

  -- all of it, said by one step
  rows_step : (ts : List Lexeme) → rows_at f ts ≡ behind (rows_at f) ts
  unfolding rows_at
  rows_step ts =
      rows_same (length ts) (suc (length ts)) ts (omega arith) (omega arith)
      ∙ comma_same (rows_in f (length ts)) (rows_at f) ts (λ rest l. rows_same (length ts) (length rest) rest (omega arith) (omega arith)) (at_mark 44 (head ts))

  module _ (S : Spell X) (r : Reads f S Free) (b : Begins S (λ t. meta_goes (Some t) ≡ false)) where
    row_reads : (g : Read (List X)) (R : Spell (List X)) → Reads g R (Stops (at_mark 44)) → Reads (row_at f g) (row S R) (Stops (at_mark 44))
    unfolding row_at
    row_reads g R q = then_reads r (λ x. made_reads (λ xs. x ∷ xs) q)

    row_begins : (R : Spell (List X)) → Begins (row S R) (λ t. meta_goes (Some t) ≡ false)
    row_begins R front xs s = let u = b s.1 s.0 s.3 in (u.0, u.1 ++ s.2, u.2, s.5 ∙ ap (λ (l : List Lexeme). l ++ s.2) u.3)

    bounded_reads : (n : ℕ) → Reads (rows_in f n) (bounded S n) (Stops (at_mark 44))
    bounded_reads zero = reads_before (Stops (at_mark 44)) (λ ts h. tt) (done_reads [])
    bounded_reads (suc n) = by_comma_reads [] (row_at f (rows_in f n)) (row S (bounded S n)) (row_reads (rows_in f n) (bounded S n) (bounded_reads n)) (row_begins (bounded S n))

    pub rows_reads : Reads (rows_at f) (closed (many (next S))) (Stops (at_mark 44))
    unfolding rows_at
    rows_reads = fuel_reads (rows_in f) (bounded S) (closed (many (next S))) (Stops (at_mark 44)) bounded_reads rows_same (into S) (from S)

  -- ---- a loop
  abbrev put : X → Result (List X × List Lexeme) ℕ → Result (List X × List Lexeme) ℕ
  put x a = then_read a (λ xs s. Ok (x ∷ xs, s))

  -- what comes of one row
  abbrev more : Result (Option X × List Lexeme) ℕ → Result (List X × List Lexeme) ℕ
  more (Ok (Some x, rest)) = put x (rows_at f rest)
  more (Ok (None, rest)) = Ok ([], rest)
  more (Err n) = Err n

  attached_more : (ts : List Lexeme) → attached_at [] ts ≡ more (attached_at None ts)
  unfolding attached_at
  attached_more ts = by_first (attachment_at ts)
    where
      by_second : (a : Result (Unit {0} × List Lexeme) ℕ) → then_read a (λ b. done []) ≡ more (then_read a (λ b. done None))
      by_second (Ok p) = refl
      by_second (Err n) = refl

      by_first : (a : Result (Unit {0} × List Lexeme) ℕ) → then_read a (λ u. attachments_at >>= λ b. done []) ≡ more (then_read a (λ u. attachments_at >>= λ b. done None))
      by_first (Ok p) = by_second (attachments_at p.1)
      by_first (Err n) = refl

  row_more : (ts : List Lexeme) → row_at f (rows_at f) ts ≡ more (some_at f ts)
  unfolding row_at some_at
  row_more ts = by_first (f ts)
    where
      by_first : (a : Result (X × List Lexeme) ℕ) → then_read a (λ x. rows_at f >>= λ xs. done (x ∷ xs)) ≡ more (then_read a (λ x. done (Some x)))
      by_first (Ok p) = refl
      by_first (Err n) = refl

  test_more : (ts : List Lexeme) (c : Bool) → by_test (attached_at []) (row_at f (rows_at f)) c ts ≡ more (by_test (attached_at None) (some_at f) c ts)
  test_more ts true = attached_more ts
  test_more ts false = row_more ts

  mark_more : (t : Lexeme) (ts : List Lexeme) (o : Option ℕ) → then_read (made o t ts) (λ comma. either_at meta_goes (attached_at []) (row_at f (rows_at f))) ≡ more (then_read (made o t ts) (λ comma. either_at meta_goes (attached_at None) (some_at f)))
  mark_more t ts None = refl
  mark_more t ts (Some line) = test_more ts (meta_goes (head ts))

  comma_more : (ts : List Lexeme) → behind_comma_at [] (row_at f (rows_at f)) ts ≡ more (one_row_at f ts)
  unfolding behind_comma_at after_comma_at one_row_at
  comma_more [] = refl
  comma_more (t ∷ ts) = mark_more t ts (as_mark 44 t)

  rows_more : (ts : List Lexeme) → at_mark 44 (head ts) ≡ true → rows_at f ts ≡ more (one_row_at f ts)
  rows_more ts e = rows_step ts ∙ ap (λ (c : Bool). cond c (behind_comma_at [] (row_at f (rows_at f)) ts) (Ok ([], ts))) e ∙ comma_more ts

  rows_none : (ts : List Lexeme) → at_mark 44 (head ts) ≡ false → rows_at f ts ≡ Ok ([], ts)
  rows_none ts e = rows_step ts ∙ ap (λ (c : Bool). cond c (behind_comma_at [] (row_at f (rows_at f)) ts) (Ok ([], ts))) e

  put_more : (out : List X) (x : X) (a : Result (List X × List Lexeme) ℕ) → put_all out (put x a) ≡ put_all (out ++ x ∷ []) a
  put_more out x (Ok q) = ap (λ (l : List X). Ok (l, q.1)) (sym (append_assoc out (x ∷ []) q.0))
  put_more out x (Err n) = refl

  module _ (a : Result (List X × List Lexeme) ℕ) (out : List X) (rest : List Lexeme) (so_far : a ≡ put_all out (rows_at f rest)) where
    pub rows_loop_more : (after : List Lexeme) (x : X) → at_mark 44 (head rest) ≡ true → one_row_at f rest ≡ Ok (Some x, after) → a ≡ put_all (out ++ x ∷ []) (rows_at f after)
    rows_loop_more after x g e = so_far ∙ ap (put_all out) (rows_more rest g ∙ ap more e) ∙ put_more out x (rows_at f after)

    pub rows_loop_last : (after : List Lexeme) → at_mark 44 (head rest) ≡ true → one_row_at f rest ≡ Ok (None, after) → a ≡ Ok (out, after)
    rows_loop_last after g e = so_far ∙ ap (put_all out) (rows_more rest g ∙ ap more e) ∙ ap (λ (l : List X). Ok (l, after)) (append-nil out)

    pub rows_loop_ends : at_mark 44 (head rest) ≡ false → a ≡ Ok (out, rest)
    rows_loop_ends g = so_far ∙ ap (put_all out) (rows_none rest g) ∙ ap (λ (l : List X). Ok (l, rest)) (append-nil out)

    pub rows_loop_fails : (e : Or ℕ) → at_mark 44 (head rest) ≡ true → Fails e (one_row_at f rest) → Fails e a
    rows_loop_fails Memory g k = tt
    rows_loop_fails (Refused n) g k = so_far ∙ ap (put_all out) (rows_more rest g ∙ ap more k)

abbrev none_of_rows : {X : Type 0} → X → Option X
none_of_rows x = None

-- a row read leaves fewer tokens
module _ {X : Type 0} (f : Read X) (shrinks : Shrinks f) where
  none_attached_row : (ts : List Lexeme) (x : X) (after : List Lexeme) → attached_at None ts ≡ Ok (Some x, after) → ⊥
  unfolding attached_at
  none_attached_row ts x after = by_first (attachment_at ts)
    where
      by_second : (a : Result (Unit {0} × List Lexeme) ℕ) → then_read a (λ b. done (none_of_rows x)) ≡ Ok (Some x, after) → ⊥
      by_second (Ok p) e = let q = (ok_parts None (Some x) p.1 after e).0 in let h : ⊥ = cc in h
      by_second (Err n) e = ok_not_err (Some x, after) n (sym e)

      by_first : (a : Result (Unit {0} × List Lexeme) ℕ) → then_read a (λ u. attachments_at >>= λ b. done (none_of_rows x)) ≡ Ok (Some x, after) → ⊥
      by_first (Ok p) e = by_second (attachments_at p.1) e
      by_first (Err n) e = ok_not_err (Some x, after) n (sym e)

  some_row : (ts : List Lexeme) (x : X) (after : List Lexeme) → some_at f ts ≡ Ok (Some x, after) → length after < length ts
  unfolding some_at
  some_row ts x after e = by_first (f ts) refl e
    where
      by_first : (a : Result (X × List Lexeme) ℕ) → f ts ≡ a → then_read a (λ y. done (Some y)) ≡ Ok (Some x, after) → length after < length ts
      by_first (Ok p) h e = let q = (ok_parts (Some p.0) (Some x) p.1 after e).1 in let l = shrinks ts p.0 p.1 h in let m = ap length q in omega arith
      by_first (Err n) h e = absurd (ok_not_err (Some x, after) n (sym e))

  test_row : (ts : List Lexeme) (x : X) (after : List Lexeme) (c : Bool) → by_test (attached_at None) (some_at f) c ts ≡ Ok (Some x, after) → length after < length ts
  test_row ts x after true e = absurd (none_attached_row ts x after e)
  test_row ts x after false e = some_row ts x after e

  mark_row : (t : Lexeme) (ts : List Lexeme) (x : X) (after : List Lexeme) (o : Option ℕ) → then_read (made o t ts) (λ comma. either_at meta_goes (attached_at None) (some_at f)) ≡ Ok (Some x, after) → length after < length (t ∷ ts)
  mark_row t ts x after None e = absurd (ok_not_err (Some x, after) _ (sym e))
  mark_row t ts x after (Some line) e = let l = test_row ts x after (meta_goes (head ts)) e in omega arith

  pub row_shrinks : (ts : List Lexeme) (x : X) (after : List Lexeme) → one_row_at f ts ≡ Ok (Some x, after) → length after < length ts
  unfolding behind_comma_at after_comma_at one_row_at
  row_shrinks [] x after e = absurd (ok_not_err (Some x, after) 0 (sym e))
  row_shrinks (t ∷ ts) x after e = mark_row t ts x after (as_mark 44 t) e
