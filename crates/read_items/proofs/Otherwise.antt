-- The one form where a test holds of the next token, else the other, which may be empty.
use Rattle.std.proofs.Common.{◌≡◌, ℕ, List, ◌++◌, Bool, true, false, cond, Option, Some, Result, Ok, Err, refl, sym, ap, ◌∙◌, inl, inr}
use Rattle.ir_core.specs.Tokens.{Lexeme}
use Rattle.ir_core.specs.Spell.{SameNext}
use Rattle.read_forms.specs.Read.{Read, head}
use Rattle.read_forms.proofs.Readers.{Reads, Taken, Halted, Begins, same_head, same_front}
use Rattle.read_forms.proofs.Choices.{either}
use Rattle.read_items.specs.Globals.{else_at}

module _ {X : Type 0} (p : Option Lexeme → Bool) (f g : Read X) (S T : List Lexeme → X → Type 0) (F : List Lexeme → Type 0) (r : Reads f S F) (k : Reads g T F) (b : Begins S (λ t. p (Some t) ≡ true)) (c : (front rest : List Lexeme) (x : X) → T front x → F rest → p (head (front ++ rest)) ≡ false) where
  abbrev by : Bool → List Lexeme → Result (X × List Lexeme) ℕ
  by a ts = cond a (f ts) (g ts)

  goes_as : (ts front rest other : List Lexeme) (a : Bool) → ts ≡ front ++ rest → SameNext rest other → p (head ts) ≡ a → by (p (head (front ++ other))) (front ++ other) ≡ by a (front ++ other)
  goes_as ts front rest other a is s h = ap (λ (d : Bool). by d (front ++ other)) (ap p (sym (ap head is ∙ same_head (front ++ rest) (front ++ other) (same_front front rest other s))) ∙ h)

  else_takes : (ts : List Lexeme) (a : Bool) → p (head ts) ≡ a → (x : X) (rest : List Lexeme) → by a ts ≡ Ok (x, rest) → Taken (else_at p f g) (either S T) ts x rest
  else_takes ts true h x rest e = let u = r.takes ts x rest e in record { front = u.front; is = u.is; spelled = inl u.spelled; same = λ other s. goes_as ts u.front rest other true u.is s h ∙ u.same other s }
  else_takes ts false h x rest e = let u = k.takes ts x rest e in record { front = u.front; is = u.is; spelled = inr u.spelled; same = λ other s. goes_as ts u.front rest other false u.is s h ∙ u.same other s }

  else_halts : (ts : List Lexeme) (a : Bool) → p (head ts) ≡ a → (n : ℕ) → by a ts ≡ Err n → Halted (else_at p f g) (either S T) ts n
  else_halts ts true h n e = let u = r.halts ts n e in record { front = u.front; rest = u.rest; is = u.is; left = u.left; more = u.more; value = u.value; goes_on = inl u.goes_on; same = λ other s. goes_as ts u.front u.rest other true u.is s h ∙ u.same other s }
  else_halts ts false h n e = let u = k.halts ts n e in record { front = u.front; rest = u.rest; is = u.is; left = u.left; more = u.more; value = u.value; goes_on = inr u.goes_on; same = λ other s. goes_as ts u.front u.rest other false u.is s h ∙ u.same other s }

  -- the first form, whatever follows that may follow it
  pub first_only : (H : List Lexeme → Type 0) → Reads f S H → (front rest : List Lexeme) (x : X) → S front x → H rest → else_at p f g (front ++ rest) ≡ Ok (x, rest)
  first_only H q front rest x s w = let u = b front x s in ap (λ (d : Bool). by d (front ++ rest)) (ap (λ (l : List Lexeme). p (head (l ++ rest))) u.3 ∙ u.2) ∙ q.only front rest x s w

  -- the other form, where the test doesn't hold
  pub second_only : (H : List Lexeme → Type 0) → Reads g T H → (front rest : List Lexeme) (x : X) → T front x → H rest → p (head (front ++ rest)) ≡ false → else_at p f g (front ++ rest) ≡ Ok (x, rest)
  second_only H q front rest x s w h = ap (λ (d : Bool). by d (front ++ rest)) h ∙ q.only front rest x s w

  else_only : (front rest : List Lexeme) (x : X) → either S T front x → F rest → else_at p f g (front ++ rest) ≡ Ok (x, rest)
  else_only front rest x (inl s) w = first_only F r front rest x s w
  else_only front rest x (inr s) w = second_only F k front rest x s w (c front rest x s w)

  pub else_reads : Reads (else_at p f g) (either S T) F
  else_reads = record {
    takes = λ ts x rest e. else_takes ts (p (head ts)) refl x rest e;
    halts = λ ts n e. else_halts ts (p (head ts)) refl n e;
    only = else_only;
    some = r.some;
    value = r.value;
    spelled = inl r.spelled;
  }
