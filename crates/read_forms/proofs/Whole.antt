-- Reading to the end of the tokens.
use Rattle.std.proofs.Common.{◌≡◌, ℕ, List, [], ◌∷◌, ◌++◌, length, Result, Ok, Err, refl, sym, ap, ◌∙◌, subst}
use Rattle.std.proofs.lemmas.List.{append-nil}
use Rattle.ir_core.specs.Tokens.{Lexeme}
use Rattle.ir_core.specs.Spell.{SameNext, IsFirstRefused}
use Rattle.read_forms.specs.Read.{Read, then_read, to_end, whole}
use Rattle.read_forms.proofs.Readers.{Reads, ok_parts, ok_not_err, err_is}

-- ---- to the end
module _ {X : Type 0} (f : Read X) (S : List Lexeme → X → Type 0) (F : List Lexeme → Type 0) (r : Reads f S F) (ends : F []) where
  reads_all : (ts : List Lexeme) (x : X) → S ts x → f ts ≡ Ok (x, [])
  reads_all ts x s = ap f (sym (append-nil ts)) ∙ r.only ts [] x s ends

  pub whole_only : (ts : List Lexeme) (x : X) → S ts x → whole f ts ≡ Ok (x, [])
  whole_only ts x s = ap (λ (a : Result (X × List Lexeme) ℕ). then_read a to_end) (reads_all ts x s)

  found_by : (ts : List Lexeme) (x : X) (rest : List Lexeme) → f ts ≡ Ok (x, rest) → (y : X) (left : List Lexeme) → to_end x rest ≡ Ok (y, left) → S ts y
  found_by ts x [] e y left k =
      let u = r.takes ts x [] e in
      let q = ok_parts x y [] left k in
      subst (S ts) q.0 (subst (λ l. S l x) (sym (u.is ∙ append-nil u.front)) u.spelled)
  found_by ts x (t ∷ rest) e y left k = absurd (ok_not_err (y, left) _ (sym k))

  found_in : (ts : List Lexeme) (a : Result (X × List Lexeme) ℕ) → f ts ≡ a → (y : X) (left : List Lexeme) → then_read a to_end ≡ Ok (y, left) → S ts y
  found_in ts (Err n) e y left k = absurd (ok_not_err (y, left) n (sym k))
  found_in ts (Ok q) e y left k = found_by ts q.0 q.1 e y left k

  pub whole_found : (ts : List Lexeme) (y : X) (left : List Lexeme) → whole f ts ≡ Ok (y, left) → S ts y
  whole_found ts y left k = found_in ts (f ts) refl y left k

  no_more : (t : Lexeme) (rest other : List Lexeme) → SameNext (t ∷ rest) other → (x y : X) → ◌≡◌ {A = Result (X × List Lexeme) ℕ} (Ok (x, other)) (Ok (y, [])) → ⊥
  no_more t rest [] s x y e = s
  no_more t rest (u ∷ us) s x y e = let q = (ok_parts x y (u ∷ us) [] e).1 in cc

  refused_by : (ts : List Lexeme) (x : X) (rest : List Lexeme) → f ts ≡ Ok (x, rest) → (n : ℕ) → to_end x rest ≡ Err n → IsFirstRefused S ts n
  refused_by ts x [] e n k = absurd (ok_not_err (x, []) n k)
  refused_by ts x (t ∷ rest) e n k =
      let u = r.takes ts x (t ∷ rest) e in
      record {
        front = u.front;
        rest = t ∷ rest;
        is = u.is;
        place = err_is _ n k;
        more = [];
        value = x;
        goes_on = subst (λ l. S l x) (sym (append-nil u.front)) u.spelled;
        no_text = λ other y s a. no_more t rest other s x y (sym (u.same other s) ∙ reads_all (u.front ++ other) y a);
      }

  refused_in : (ts : List Lexeme) (a : Result (X × List Lexeme) ℕ) → f ts ≡ a → (n : ℕ) → then_read a to_end ≡ Err n → IsFirstRefused S ts n
  refused_in ts (Ok q) e n k = refused_by ts q.0 q.1 e n k
  refused_in ts (Err m) e n k =
      let u = r.halts ts n (e ∙ ap Err (err_is m n k)) in
      record {
        front = u.front;
        rest = u.rest;
        is = u.is;
        place = u.left;
        more = u.more;
        value = u.value;
        goes_on = u.goes_on;
        no_text = λ other y s a. ok_not_err (y, []) (length other) (sym (reads_all (u.front ++ other) y a) ∙ u.same other s);
      }

  pub whole_refused : (ts : List Lexeme) (n : ℕ) → whole f ts ≡ Err n → IsFirstRefused S ts n
  whole_refused ts n k = refused_in ts (f ts) refl n k
