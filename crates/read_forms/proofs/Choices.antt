-- What may be absent, and the one form or the other.
use Rattle.std.proofs.Common.{◌≡◌, ℕ, List, [], ◌∷◌, ◌++◌, Option, Some, Bool, true, false, cond, Result, Ok, Err, refl, sym, ap, ◌∙◌, subst, inl, inr, ◌⊎◌}
use Rattle.ir_core.specs.Tokens.{Lexeme}
use Rattle.ir_core.specs.Spell.{SameNext, any}
use Rattle.ir_core.specs.Spell as G
use Rattle.ir_core.specs.Forms.{maybe}
use Rattle.read_forms.specs.Read.{Read, head, maybe_at, by_test, either_at}
use Rattle.read_forms.proofs.Readers.{Reads, Taken, Halted, Free, Begins, ok_parts, ok_not_err, pick_reads, reads_as, same_head, same_front}
use Rattle.read_forms.proofs.Many.{Stops}

-- ---- what may be absent
module _ {X : Type 0} (none : X) (p : Option Lexeme → Bool) (f : Read X) (S : List Lexeme → X → Type 0) (F : List Lexeme → Type 0) (r : Reads f S F) (b : Begins S (λ t. p (Some t) ≡ true)) where
  abbrev by : Bool → List Lexeme → Result (X × List Lexeme) ℕ
  by c ts = cond c (f ts) (Ok (none, ts))

  maybe_takes : (ts : List Lexeme) (c : Bool) → p (head ts) ≡ c → (x : X) (rest : List Lexeme) → by c ts ≡ Ok (x, rest) → Taken (maybe_at none p f) (maybe none S) ts x rest
  maybe_takes ts true h x rest e =
      let u = r.takes ts x rest e in
      record {
        front = u.front;
        is = u.is;
        spelled = inr u.spelled;
        same = λ other s.
            ap (λ (c : Bool). by c (u.front ++ other)) (ap p (sym (ap head u.is ∙ same_head (u.front ++ rest) (u.front ++ other) (same_front u.front rest other s))) ∙ h)
            ∙ u.same other s;
      }
  maybe_takes ts false h x rest e =
      let q = ok_parts none x ts rest e in
      record {
        front = [];
        is = q.1;
        spelled = inl (refl, sym q.0);
        same = λ other s.
            ap (λ (c : Bool). by c other) (ap p (sym (same_head ts other (subst (λ l. SameNext l other) (sym q.1) s))) ∙ h)
            ∙ ap (λ (y : X). Ok (y, other)) q.0;
      }

  maybe_halts : (ts : List Lexeme) (c : Bool) → p (head ts) ≡ c → (n : ℕ) → by c ts ≡ Err n → Halted (maybe_at none p f) (maybe none S) ts n
  maybe_halts ts false h n e = absurd (ok_not_err (none, ts) n e)
  maybe_halts ts true h n e =
      let u = r.halts ts n e in
      record {
        front = u.front;
        rest = u.rest;
        is = u.is;
        left = u.left;
        more = u.more;
        value = u.value;
        goes_on = inr u.goes_on;
        same = λ other s.
            ap (λ (c : Bool). by c (u.front ++ other)) (ap p (sym (ap head u.is ∙ same_head (u.front ++ u.rest) (u.front ++ other) (same_front u.front u.rest other s))) ∙ h)
            ∙ u.same other s;
      }

  maybe_only : (front rest : List Lexeme) (x : X) → maybe none S front x → Stops p rest → F rest → maybe_at none p f (front ++ rest) ≡ Ok (x, rest)
  maybe_only front rest x (inl h) s k = ap (λ (l : List Lexeme). maybe_at none p f (l ++ rest)) h.0 ∙ ap (λ (c : Bool). by c rest) s ∙ ap (λ (y : X). Ok (y, rest)) (sym h.1)
  maybe_only front rest x (inr h) s k =
      let u = b front x h in
      ap (λ (c : Bool). by c (front ++ rest)) (ap (λ (l : List Lexeme). p (head (l ++ rest))) u.3 ∙ u.2) ∙ r.only front rest x h k

  pub maybe_reads_where : Reads (maybe_at none p f) (maybe none S) (λ ts. Stops p ts × F ts)
  maybe_reads_where = record {
    takes = λ ts x rest e. maybe_takes ts (p (head ts)) refl x rest e;
    halts = λ ts n e. maybe_halts ts (p (head ts)) refl n e;
    only = λ front rest x s h. maybe_only front rest x s h.0 h.1;
    some = [];
    value = none;
    spelled = inl (refl, refl);
  }

-- where anything can follow it
pub maybe_reads : {X : Type 0} (none : X) (p : Option Lexeme → Bool) (f : Read X) (S : List Lexeme → X → Type 0) → Reads f S Free → Begins S (λ t. p (Some t) ≡ true) → Reads (maybe_at none p f) (maybe none S) (Stops p)
maybe_reads none p f S r b =
    let m = maybe_reads_where none p f S Free r b in
    record { takes = m.takes; halts = m.halts; only = λ front rest x s h. m.only front rest x s (h, tt); some = m.some; value = m.value; spelled = m.spelled }

-- what may be absent, and what then follows, begin in the same way
pub maybe_begins : {X Y : Type 0} (none : X) (S : List Lexeme → X → Type 0) (T : X → List Lexeme → Y → Type 0) (P : Lexeme → Type 0) → Begins S P → ((x : X) → Begins (T x) P) → Begins (G.◌>>=◌ (maybe none S) T) P
maybe_begins {X} {Y} none S T P b c front y s = by_first s.3
  where
    by_first : maybe none S s.1 s.0 → (t : Lexeme) × (more : List Lexeme) × P t × (front ≡ t ∷ more)
    by_first (inl h) = let u = c s.0 s.2 y s.4 in (u.0, u.1, u.2, s.5 ∙ ap (λ (l : List Lexeme). l ++ s.2) h.0 ∙ u.3)
    by_first (inr h) = let u = b s.1 s.0 h in (u.0, u.1 ++ s.2, u.2, s.5 ∙ ap (λ (l : List Lexeme). l ++ s.2) u.3)

-- ---- the one or the other
abbrev pub either : {X : Type 0} → (List Lexeme → X → Type 0) → (List Lexeme → X → Type 0) → List Lexeme → X → Type 0
either S T ts x = S ts x ⊎ T ts x

module _ {X : Type 0} (p : Option Lexeme → Bool) (f g : Read X) (S T : List Lexeme → X → Type 0) (F : List Lexeme → Type 0) (r : Reads f S F) (k : Reads g T F) (b : Begins S (λ t. p (Some t) ≡ true)) (c : Begins T (λ t. p (Some t) ≡ false)) where
  form_of : Bool → List Lexeme → X → Type 0
  form_of true = S
  form_of false = T

  form_reads : (a : Bool) → Reads (by_test f g a) (form_of a) F
  unfolding form_of
  form_reads true = r
  form_reads false = k

  form_begins : (a : Bool) → Begins (form_of a) (λ t. ◌≡◌ {A = Option Bool} (Some (p (Some t))) (Some a))
  unfolding form_of
  form_begins true front x s = let u = b front x s in (u.0, u.1, ap Some u.2, u.3)
  form_begins false front x s = let u = c front x s in (u.0, u.1, ap Some u.2, u.3)

  from_any : (ts : List Lexeme) (x : X) (a : Bool) → form_of a ts x → either S T ts x
  unfolding form_of
  from_any ts x true s = inl s
  from_any ts x false s = inr s

  to_any : (ts : List Lexeme) (x : X) → either S T ts x → any form_of ts x
  unfolding form_of
  to_any ts x (inl s) = (true, s)
  to_any ts x (inr s) = (false, s)

  pub either_reads : Reads (either_at p f g) (either S T) F
  either_reads = reads_as (either_at p f g) (any form_of) (either S T) F (pick_reads (λ o. Some (p o)) (by_test f g) form_of F form_reads form_begins true) (λ ts x s. from_any ts x s.0 s.1) to_any

pub either_begins : {X : Type 0} (S T : List Lexeme → X → Type 0) (P : Lexeme → Type 0) → Begins S P → Begins T P → Begins (either S T) P
either_begins S T P b c front x (inl s) = b front x s
either_begins S T P b c front x (inr s) = c front x s
