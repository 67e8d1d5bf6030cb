-- A loop that gathers what many give.
use Rattle.std.proofs.Common.{◌≡◌, ℕ, List, ◌++◌, Bool, true, false, Option, None, Result, Ok, Err, refl, sym, ap, ◌∙◌, append_assoc}
use Rattle.std.proofs.lemmas.List.{append-nil}
use Rattle.ir_core.specs.declared.answers.Or.{Or}
use Rattle.ir_core.specs.declared.answers.Or.TheVariants.{Refused, Memory}
use Rattle.ir_core.specs.Tokens.{Lexeme}
use Rattle.read_forms.specs.Read.{Read, then_read, done, head, put_all, Shrinks, Fails}
use Rattle.read_forms.proofs.Many.{put, many_step, many_stops, many_fails}
use Rattle.read_items.specs.Gathered.{all_of, gathered_at}

module _ {X : Type 0} (p : Option Lexeme → Bool) (f : Read (List X)) (shrinks : Shrinks f) (ends : p None ≡ false) where
  abbrev gathered : Result (List (List X) × List Lexeme) ℕ → Result (List X × List Lexeme) ℕ
  gathered a = then_read a (λ xss. done (all_of xss))

  gathered_put : (xs : List X) (a : Result (List (List X) × List Lexeme) ℕ) → gathered (put xs a) ≡ put_all xs (gathered a)
  unfolding put
  gathered_put xs (Ok q) = refl
  gathered_put xs (Err n) = refl

  put_twice : (out more : List X) (a : Result (List X × List Lexeme) ℕ) → put_all out (put_all more a) ≡ put_all (out ++ more) a
  put_twice out more (Ok q) = ap (λ (l : List X). Ok (l, q.1)) (sym (append_assoc out more q.0))
  put_twice out more (Err n) = refl

  module _ (a : Result (List X × List Lexeme) ℕ) (out : List X) (rest : List Lexeme) (so_far : a ≡ put_all out (gathered_at p f rest)) where
    pub gathered_more : (after : List Lexeme) (xs : List X) → p (head rest) ≡ true → f rest ≡ Ok (xs, after) → a ≡ put_all (out ++ xs) (gathered_at p f after)
    gathered_more after xs g e = so_far ∙ ap (λ (r : Result (List (List X) × List Lexeme) ℕ). put_all out (gathered r)) (many_step p f shrinks ends rest xs after g e) ∙ ap (put_all out) (gathered_put xs _) ∙ put_twice out xs _

    pub gathered_ends : p (head rest) ≡ false → a ≡ Ok (out, rest)
    gathered_ends g = so_far ∙ ap (λ (r : Result (List (List X) × List Lexeme) ℕ). put_all out (gathered r)) (many_stops p f shrinks ends rest g) ∙ ap (λ (l : List X). Ok (l, rest)) (append-nil out)

    pub gathered_fails : (e : Or ℕ) → p (head rest) ≡ true → Fails e (f rest) → Fails e a
    gathered_fails Memory g k = tt
    gathered_fails (Refused n) g k = so_far ∙ ap (λ (r : Result (List (List X) × List Lexeme) ℕ). put_all out (gathered r)) (many_fails p f shrinks ends rest n g k)
