-- Repeated parts.
use Rattle.std.proofs.Common.{◌≡◌, ℕ, zero, suc, ◌<◌, ◌≤◌, List, [], ◌∷◌, ◌++◌, length, Option, Some, None, Result, Ok, Err, Bool, true, false, refl, sym, ap, ◌∙◌, subst, append_assoc, length-append, arith}
use Rattle.std.proofs.lemmas.List.{append-nil}
use Rattle.ir_core.specs.declared.answers.Or.{Or}
use Rattle.ir_core.specs.declared.answers.Or.TheVariants.{Refused, Memory}
use Rattle.ir_core.specs.Tokens.{Lexeme}
use Rattle.ir_core.specs.Spell.{SameNext, many}
use Rattle.ir_core.specs.Spell as G
use Rattle.read_forms.specs.Read.{Read, then_read, ◌>>=◌, done, head, turn, turns, many_at, dropped_at, put_all, Shrinks, Fails}
use Rattle.read_forms.proofs.Readers.{Taken, Halted, Reads, Free, same_front, same_head, ok_parts, ok_not_err, err_is, Begins, done_reads, then_reads_where, reads_before}
use Rattle.ir_core.specs.Forms.{dropped}

-- ---- one after another
abbrev pub Stops : (Option Lexeme → Bool) → List Lexeme → Type 0
Stops p ts = p (head ts) ≡ false

pub begins_stops : {X : Type 0} (S : List Lexeme → X → Type 0) (p : Option Lexeme → Bool) → Begins S (λ t. p (Some t) ≡ false) → (front rest : List Lexeme) (x : X) → S front x → Stops p (front ++ rest)
begins_stops S p b front rest x s = let u = b front x s in ap (λ (l : List Lexeme). p (head (l ++ rest))) u.3 ∙ u.2

-- what begins with some token leaves fewer
pub shrinks_by : {X : Type 0} (f : Read X) (S : List Lexeme → X → Type 0) (F : List Lexeme → Type 0) (P : Lexeme → Type 0) → Reads f S F → Begins S P → Shrinks f
shrinks_by f S F P r b ts x rest e =
    let u = r.takes ts x rest e in
    let v = b u.front x u.spelled in
    let l = ap length u.is ∙ length-append u.front rest in
    let m = ap length v.3 in
    omega arith

put_all_put : {X : Type 0} (out : List X) (x : X) (a : Result (List X × List Lexeme) ℕ) → put_all out (then_read a (λ xs s. Ok (x ∷ xs, s))) ≡ put_all (out ++ x ∷ []) a
put_all_put out x (Ok q) = ap (λ (l : List _). Ok (l, q.1)) (sym (append_assoc out (x ∷ []) q.0))
put_all_put out x (Err n) = refl

pub put_none : {X : Type 0} (a : Result (List X × List Lexeme) ℕ) → a ≡ put_all [] a
put_none (Ok q) = refl
put_none (Err n) = refl

-- one value before those that come of more
unfoldable pub put : {X : Type 0} → X → Result (List X × List Lexeme) ℕ → Result (List X × List Lexeme) ℕ
put x a = then_read a (λ xs s. Ok (x ∷ xs, s))

-- ---- turn after turn
module _ {X : Type 0} (p : Option Lexeme → Bool) (f : Read X) (shrinks : Shrinks f) (ends : p None ≡ false) where
  -- any count that suffices gives the same
  turn_same : (n m : ℕ) (ts : List Lexeme) → ((rest : List Lexeme) → length rest < length ts → turns p f n rest ≡ turns p f m rest) → (c : Bool) (q : Result (X × List Lexeme) ℕ) → f ts ≡ q → turn c f (turns p f n) ts ≡ turn c f (turns p f m) ts
  turn_same n m ts h false q e = refl
  turn_same n m ts h true (Err k) e = ap (λ (a : Result (X × List Lexeme) ℕ). then_read a (λ x r. then_read (turns p f n r) (λ xs s. Ok (x ∷ xs, s)))) e ∙ sym (ap (λ (a : Result (X × List Lexeme) ℕ). then_read a (λ x r. then_read (turns p f m r) (λ xs s. Ok (x ∷ xs, s)))) e)
  turn_same n m ts h true (Ok q) e =
      ap (λ (a : Result (X × List Lexeme) ℕ). then_read a (λ x r. then_read (turns p f n r) (λ xs s. Ok (x ∷ xs, s)))) e
      ∙ ap (λ (a : Result (List X × List Lexeme) ℕ). then_read a (λ xs s. Ok (q.0 ∷ xs, s))) (h q.1 (shrinks ts q.0 q.1 e))
      ∙ sym (ap (λ (a : Result (X × List Lexeme) ℕ). then_read a (λ x r. then_read (turns p f m r) (λ xs s. Ok (x ∷ xs, s)))) e)

  turns_same : (n m : ℕ) (ts : List Lexeme) → length ts ≤ n → length ts ≤ m → turns p f n ts ≡ turns p f m ts
  turns_same zero zero ts h k = refl
  turns_same zero (suc m) [] h k = sym (ap (λ (c : Bool). turn c f (turns p f m) []) ends)
  turns_same zero (suc m) (t ∷ ts) h k = absurd (omega arith)
  turns_same (suc n) zero [] h k = ap (λ (c : Bool). turn c f (turns p f n) []) ends
  turns_same (suc n) zero (t ∷ ts) h k = absurd (omega arith)
  turns_same (suc n) (suc m) ts h k = turn_same n m ts (λ rest l. turns_same n m rest (omega arith) (omega arith)) (p (head ts)) (f ts) refl

  -- what comes of one more
  abbrev pub more_of : ℕ → Result (X × List Lexeme) ℕ → Result (List X × List Lexeme) ℕ
  more_of n a = then_read a (λ x r. then_read (turns p f n r) (λ xs s. Ok (x ∷ xs, s)))

  pub many_stops : (ts : List Lexeme) → Stops p ts → many_at p f ts ≡ Ok ([], ts)
  unfolding many_at
  many_stops [] s = refl
  many_stops (t ∷ ts) s = ap (λ (c : Bool). turn c f (turns p f (length ts)) (t ∷ ts)) s

  pub many_step : (ts : List Lexeme) (x : X) (rest : List Lexeme) → p (head ts) ≡ true → f ts ≡ Ok (x, rest) → many_at p f ts ≡ put x (many_at p f rest)
  unfolding many_at put
  many_step [] x rest g e = let h : true ≡ false = sym g ∙ ends in absurd (cc)
  many_step (t ∷ ts) x rest g e =
      ap (λ (c : Bool). turn c f (turns p f (length ts)) (t ∷ ts)) g
      ∙ ap (more_of (length ts)) e
      ∙ ap (put x) (turns_same (length ts) (length rest) rest (let l = shrinks (t ∷ ts) x rest e in omega arith) (omega arith))

  pub many_fails : (ts : List Lexeme) (n : ℕ) → p (head ts) ≡ true → f ts ≡ Err n → many_at p f ts ≡ Err n
  unfolding many_at
  many_fails [] n g e = let h : true ≡ false = sym g ∙ ends in absurd (cc)
  many_fails (t ∷ ts) n g e = ap (λ (c : Bool). turn c f (turns p f (length ts)) (t ∷ ts)) g ∙ ap (more_of (length ts)) e

  pub put_step : (out : List X) (ts after : List Lexeme) (x : X) → p (head ts) ≡ true → f ts ≡ Ok (x, after) → put_all out (many_at p f ts) ≡ put_all (out ++ x ∷ []) (many_at p f after)
  unfolding put
  put_step out ts after x g e = ap (put_all out) (many_step ts x after g e) ∙ put_all_put out x (many_at p f after)

  -- a loop, after what it has read: all that comes of a is what comes of out and the rest
  module _ (a : Result (List X × List Lexeme) ℕ) (out : List X) (rest : List Lexeme) (so_far : a ≡ put_all out (many_at p f rest)) where
    pub loop_more : (after : List Lexeme) (x : X) → p (head rest) ≡ true → f rest ≡ Ok (x, after) → a ≡ put_all (out ++ x ∷ []) (many_at p f after)
    loop_more after x g e = so_far ∙ put_step out rest after x g e

    pub loop_ends : p (head rest) ≡ false → a ≡ Ok (out, rest)
    loop_ends g = so_far ∙ ap (put_all out) (many_stops rest g) ∙ ap (λ (l : List X). Ok (l, rest)) (append-nil out)

    pub loop_fails : (e : Or ℕ) → p (head rest) ≡ true → Fails e (f rest) → Fails e a
    loop_fails Memory g k = tt
    loop_fails (Refused n) g k = so_far ∙ ap (put_all out) (many_fails rest n g k)

  abbrev forget : Result (List X × List Lexeme) ℕ → Result (Unit {0} × List Lexeme) ℕ
  forget a = then_read a (λ xs. done tt)

  drop_put : (x : X) (a : Result (List X × List Lexeme) ℕ) → forget (put x a) ≡ forget a
  unfolding put
  drop_put x (Ok q) = refl
  drop_put x (Err n) = refl

  -- a loop that drops what it reads
  module _ (a : Result (Unit {0} × List Lexeme) ℕ) (rest : List Lexeme) (so_far : a ≡ dropped_at p f rest) where
    pub drop_more : (after : List Lexeme) (x : X) → p (head rest) ≡ true → f rest ≡ Ok (x, after) → a ≡ dropped_at p f after
    drop_more after x g e = so_far ∙ ap forget (many_step rest x after g e) ∙ drop_put x (many_at p f after)

    pub drop_ends : p (head rest) ≡ false → a ≡ Ok (tt, rest)
    drop_ends g = so_far ∙ ap forget (many_stops rest g)

    pub drop_fails : (e : Or ℕ) → p (head rest) ≡ true → Fails e (f rest) → Fails e a
    drop_fails Memory g k = tt
    drop_fails (Refused n) g k = so_far ∙ ap forget (many_fails rest n g k)

-- ---- what is repeated is read as it is spelled, where the first token of an item can follow any item
module _ {X : Type 0} (p : Option Lexeme → Bool) (f : Read X) (S : List Lexeme → X → Type 0) (F : List Lexeme → Type 0) (r : Reads f S F) (b : Begins S (λ t. p (Some t) ≡ true)) (ends : p None ≡ false) (follows : (ts : List Lexeme) → p (head ts) ≡ true → F ts) where
  abbrev shrinks : Shrinks f
  shrinks = shrinks_by f S F (λ t. p (Some t) ≡ true) r b

  abbrev step : (ts : List Lexeme) (x : X) (rest : List Lexeme) → p (head ts) ≡ true → f ts ≡ Ok (x, rest) → many_at p f ts ≡ put x (many_at p f rest)
  step = many_step p f shrinks ends

  -- the next token of the same kind
  begins_on : (front rest other : List Lexeme) (x : X) → S front x → p (head (front ++ other)) ≡ true
  begins_on front rest other x s = let v = b front x s in ap (λ (l : List Lexeme). p (head (l ++ other))) v.3 ∙ v.2

  takes_more : (ts : List Lexeme) (x : X) (after : List Lexeme) → f ts ≡ Ok (x, after) → (w : Result (List X × List Lexeme) ℕ) → many_at p f after ≡ w → ((ys : List X) (rest : List Lexeme) → many_at p f after ≡ Ok (ys, rest) → Taken (many_at p f) (many S) after ys rest) → (xs : List X) (rest : List Lexeme) → put x w ≡ Ok (xs, rest) → Taken (many_at p f) (many S) ts xs rest
  unfolding put
  takes_more ts x after e (Err n) g h xs rest k = absurd (ok_not_err (xs, rest) n (sym k))
  takes_more ts x after e (Ok w) g h xs rest k =
      let q = ok_parts (x ∷ w.0) xs w.1 rest k in
      let u = r.takes ts x after e in
      let v = h w.0 rest (g ∙ ap (λ (l : List Lexeme). Ok (w.0, l)) q.1) in
      record {
        front = u.front ++ v.front;
        is = u.is ∙ ap (λ (l : List Lexeme). u.front ++ l) v.is ∙ sym (append_assoc u.front v.front rest);
        spelled = subst (many S (u.front ++ v.front)) q.0 (u.front, v.front, u.spelled, v.spelled, refl);
        same = λ other s.
            ap (many_at p f) (append_assoc u.front v.front other)
            ∙ step (u.front ++ (v.front ++ other)) x (v.front ++ other) (begins_on u.front after (v.front ++ other) x u.spelled) (u.same (v.front ++ other) (subst (λ l. SameNext l (v.front ++ other)) (sym v.is) (same_front v.front rest other s)))
            ∙ ap (put x) (v.same other s)
            ∙ ap (λ (l : List X). Ok (l, other)) q.0;
      }

  takes_by : (ts : List Lexeme) → ((after : List Lexeme) → length after < length ts → (ys : List X) (rest : List Lexeme) → many_at p f after ≡ Ok (ys, rest) → Taken (many_at p f) (many S) after ys rest) → (c : Bool) → p (head ts) ≡ c → (q : Result (X × List Lexeme) ℕ) → f ts ≡ q → (xs : List X) (rest : List Lexeme) → many_at p f ts ≡ Ok (xs, rest) → Taken (many_at p f) (many S) ts xs rest
  takes_by ts h false g q e xs rest k =
      let a = ok_parts [] xs ts rest (sym (many_stops p f shrinks ends ts g) ∙ k) in
      record {
        front = [];
        is = a.1;
        spelled = subst (many S []) a.0 refl;
        same = λ other s. many_stops p f shrinks ends other (ap p (sym (same_head ts other (subst (λ l. SameNext l other) (sym a.1) s))) ∙ g) ∙ ap (λ (l : List X). Ok (l, other)) a.0;
      }
  takes_by ts h true g (Err n) e xs rest k = absurd (ok_not_err (xs, rest) n (sym k ∙ many_fails p f shrinks ends ts n g e))
  takes_by ts h true g (Ok q) e xs rest k = takes_more ts q.0 q.1 e (many_at p f q.1) refl (h q.1 (shrinks ts q.0 q.1 e)) xs rest (sym (step ts q.0 q.1 g e) ∙ k)

  many_takes : (n : ℕ) (ts : List Lexeme) → length ts ≤ n → (xs : List X) (rest : List Lexeme) → many_at p f ts ≡ Ok (xs, rest) → Taken (many_at p f) (many S) ts xs rest
  many_takes zero ts l xs rest k = takes_by ts (λ after m. absurd (omega arith)) (p (head ts)) refl (f ts) refl xs rest k
  many_takes (suc n) ts l xs rest k = takes_by ts (λ after m. many_takes n after (omega arith)) (p (head ts)) refl (f ts) refl xs rest k

  halts_more : (ts : List Lexeme) (x : X) (after : List Lexeme) → f ts ≡ Ok (x, after) → (w : Result (List X × List Lexeme) ℕ) → many_at p f after ≡ w → ((n : ℕ) → many_at p f after ≡ Err n → Halted (many_at p f) (many S) after n) → (n : ℕ) → put x w ≡ Err n → Halted (many_at p f) (many S) ts n
  unfolding put
  halts_more ts x after e (Ok w) g h n k = absurd (ok_not_err (x ∷ w.0, w.1) n k)
  halts_more ts x after e (Err m) g h n k =
      let u = r.takes ts x after e in
      let v = h n (g ∙ ap Err (err_is m n k)) in
      record {
        front = u.front ++ v.front;
        rest = v.rest;
        is = u.is ∙ ap (λ (l : List Lexeme). u.front ++ l) v.is ∙ sym (append_assoc u.front v.front v.rest);
        left = v.left;
        more = v.more;
        value = x ∷ v.value;
        goes_on = (u.front, v.front ++ v.more, u.spelled, v.goes_on, append_assoc u.front v.front v.more);
        same = λ other s.
            ap (many_at p f) (append_assoc u.front v.front other)
            ∙ step (u.front ++ (v.front ++ other)) x (v.front ++ other) (begins_on u.front after (v.front ++ other) x u.spelled) (u.same (v.front ++ other) (subst (λ l. SameNext l (v.front ++ other)) (sym v.is) (same_front v.front v.rest other s)))
            ∙ ap (put x) (v.same other s);
      }

  halts_first : (ts : List Lexeme) → p (head ts) ≡ true → (n : ℕ) → f ts ≡ Err n → Halted (many_at p f) (many S) ts n
  halts_first ts g n e =
      let u = r.halts ts n e in
      record {
        front = u.front;
        rest = u.rest;
        is = u.is;
        left = u.left;
        more = u.more;
        value = u.value ∷ [];
        goes_on = (u.front ++ u.more, [], u.goes_on, refl, sym (append-nil (u.front ++ u.more)));
        same = λ other s. many_fails p f shrinks ends (u.front ++ other) (length other) (ap p (sym (ap head u.is ∙ same_head (u.front ++ u.rest) (u.front ++ other) (same_front u.front u.rest other s))) ∙ g) (u.same other s);
      }

  halts_by : (ts : List Lexeme) → ((after : List Lexeme) → length after < length ts → (n : ℕ) → many_at p f after ≡ Err n → Halted (many_at p f) (many S) after n) → (c : Bool) → p (head ts) ≡ c → (q : Result (X × List Lexeme) ℕ) → f ts ≡ q → (n : ℕ) → many_at p f ts ≡ Err n → Halted (many_at p f) (many S) ts n
  halts_by ts h false g q e n k = absurd (ok_not_err ([], ts) n (sym (many_stops p f shrinks ends ts g) ∙ k))
  halts_by ts h true g (Err m) e n k = halts_first ts g n (e ∙ ap Err (err_is m n (sym (many_fails p f shrinks ends ts m g e) ∙ k)))
  halts_by ts h true g (Ok q) e n k = halts_more ts q.0 q.1 e (many_at p f q.1) refl (h q.1 (shrinks ts q.0 q.1 e)) n (sym (step ts q.0 q.1 g e) ∙ k)

  many_halts : (m : ℕ) (ts : List Lexeme) → length ts ≤ m → (n : ℕ) → many_at p f ts ≡ Err n → Halted (many_at p f) (many S) ts n
  many_halts zero ts l n k = halts_by ts (λ after m. absurd (omega arith)) (p (head ts)) refl (f ts) refl n k
  many_halts (suc m) ts l n k = halts_by ts (λ after o. many_halts m after (omega arith)) (p (head ts)) refl (f ts) refl n k

  many_followed : (front rest : List Lexeme) (xs : List X) → many S front xs → F rest → F (front ++ rest)
  many_followed front rest [] s k = subst (λ l. F (l ++ rest)) (sym s) k
  many_followed front rest (x ∷ xs) s k =
      let more = subst (λ l. p (head l) ≡ true) (sym (append_assoc s.0 s.1 rest)) (begins_on s.0 [] (s.1 ++ rest) x s.2) in
      subst (λ l. F (l ++ rest)) (sym s.4) (follows ((s.0 ++ s.1) ++ rest) more)

  many_only : (front rest : List Lexeme) (xs : List X) → many S front xs → Stops p rest → F rest → many_at p f (front ++ rest) ≡ Ok (xs, rest)
  unfolding put
  many_only front rest [] s h k = ap (λ (l : List Lexeme). many_at p f (l ++ rest)) s ∙ many_stops p f shrinks ends rest h
  many_only front rest (x ∷ xs) s h k =
      ap (λ (l : List Lexeme). many_at p f (l ++ rest)) s.4
      ∙ ap (many_at p f) (append_assoc s.0 s.1 rest)
      ∙ step (s.0 ++ (s.1 ++ rest)) x (s.1 ++ rest) (begins_on s.0 [] (s.1 ++ rest) x s.2) (r.only s.0 (s.1 ++ rest) x s.2 (many_followed s.1 rest xs s.3 k))
      ∙ ap (put x) (many_only s.1 rest xs s.3 h k)

  pub many_reads_where : Reads (many_at p f) (many S) (λ ts. Stops p ts × F ts)
  many_reads_where = record {
    takes = λ ts xs rest e. many_takes (length ts) ts (omega arith) xs rest e;
    halts = λ ts n e. many_halts (length ts) ts (omega arith) n e;
    only = λ front rest xs s h. many_only front rest xs s h.0 h.1;
    some = [];
    value = [];
    spelled = refl;
  }

-- where anything can follow an item
pub many_reads : {X : Type 0} (p : Option Lexeme → Bool) (f : Read X) (S : List Lexeme → X → Type 0) → Reads f S Free → Begins S (λ t. p (Some t) ≡ true) → p None ≡ false → Reads (many_at p f) (many S) (Stops p)
many_reads p f S r b ends = reads_before (Stops p) (λ ts h. (h, tt)) (many_reads_where p f S Free r b ends (λ ts h. tt))

-- repeated, and then what never begins like one more
pub many_then_reads : {X Y : Type 0} (p : Option Lexeme → Bool) {f : Read X} {S : List Lexeme → X → Type 0} {g : X → Read Y} {T : X → List Lexeme → Y → Type 0} {H : List Lexeme → Type 0} → Reads f S (Stops p) → ((xs : X) → Reads (g xs) (T xs) H) → ((xs : X) → Begins (T xs) (λ t. p (Some t) ≡ false)) → Reads (f >>= g) (G.◌>>=◌ S T) H
many_then_reads p {f = f} {S = S} {g = g} {T = T} {H = H} a b c = then_reads_where f S (Stops p) g T H a b (λ xs front rest y t k. begins_stops (T xs) p (c xs) front rest y t)

-- what is repeated, and what then follows, begin in the same way
pub many_begins : {X Y : Type 0} (S : List Lexeme → X → Type 0) (T : List X → List Lexeme → Y → Type 0) (P : Lexeme → Type 0) → Begins S P → ((xs : List X) → Begins (T xs) P) → Begins (G.◌>>=◌ (many S) T) P
many_begins {X} {Y} S T P b c front y s = by_first s.0 s.1 s.2 s.3 s.4 s.5
  where
    by_first : (xs : List X) (a z : List Lexeme) → many S a xs → T xs z y → front ≡ a ++ z → (t : Lexeme) × (more : List Lexeme) × P t × (front ≡ t ∷ more)
    by_first [] a z m k e = let u = c [] z y k in (u.0, u.1, u.2, e ∙ ap (λ (l : List Lexeme). l ++ z) m ∙ u.3)
    by_first (x ∷ xs) a z m k e = let u = b m.0 x m.2 in (u.0, (u.1 ++ m.1) ++ z, u.2, e ∙ ap (λ (l : List Lexeme). l ++ z) (m.4 ∙ ap (λ (l : List Lexeme). l ++ m.1) u.3))

-- what is repeated is dropped
pub dropped_reads : {X : Type 0} (p : Option Lexeme → Bool) (f : Read X) (S : List Lexeme → X → Type 0) → Reads f S Free → Begins S (λ t. p (Some t) ≡ true) → p None ≡ false → Reads (dropped_at p f) (dropped S) (Stops p)
dropped_reads p f S r b ends =
    then_reads_where (many_at p f) (many S) (Stops p) (λ xs. done tt) (λ xs. G.done tt) (Stops p)
    (many_reads p f S r b ends)
    (λ xs. reads_before (Stops p) (λ ts h. tt) (done_reads tt))
    (λ xs front rest y s k. subst (λ l. Stops p (l ++ rest)) (sym s.0) k)

-- any dropped, and what then follows, begin in the same way
pub dropped_begins : {X Y : Type 0} (S : List Lexeme → X → Type 0) (T : Unit {0} → List Lexeme → Y → Type 0) (P : Lexeme → Type 0) → Begins S P → Begins (T tt) P → Begins (G.◌>>=◌ (dropped S) T) P
dropped_begins {X} {Y} S T P b c front y s = by_first s.3.0 s.3.1 s.3.2 s.3.3 s.3.4 s.3.5
  where
    by_first : (xs : List X) (a z : List Lexeme) → many S a xs → (z ≡ []) × (s.0 ≡ tt) → s.1 ≡ a ++ z → (t : Lexeme) × (more : List Lexeme) × P t × (front ≡ t ∷ more)
    by_first [] a z m k e = let u = c s.2 y s.4 in (u.0, u.1, u.2, s.5 ∙ ap (λ (l : List Lexeme). l ++ s.2) (e ∙ ap (λ (l : List Lexeme). l ++ z) m ∙ k.0) ∙ u.3)
    by_first (x ∷ xs) a z m k e = let u = b m.0 x m.2 in (u.0, ((u.1 ++ m.1) ++ z) ++ s.2, u.2, s.5 ∙ ap (λ (l : List Lexeme). l ++ s.2) (e ∙ ap (λ (l : List Lexeme). l ++ z) (m.4 ∙ ap (λ (l : List Lexeme). l ++ m.1) u.3)))
