-- Instructions that are read one after another, of which some are dropped.
use Rattle.std.proofs.Common.{◌≡◌, ℕ, List, [], ◌∷◌, ◌++◌, Bool, true, false, cond, Result, Ok, Err, refl, sym, ap, ◌∙◌, append_assoc}
use Rattle.std.proofs.lemmas.List.{append-nil}
use Rattle.std.specs.List.{filter}
use Rattle.ir_core.specs.declared.answers.Or.{Or}
use Rattle.ir_core.specs.declared.answers.Or.TheVariants.{Refused, Memory}
use Rattle.ir_core.specs.declared.instructions.Inst.{Inst}
use Rattle.ir_core.specs.Tokens.{Lexeme}
use Rattle.ir_core.specs.Instructions.{is_kept}
use Rattle.read_forms.specs.Read.{then_read, done, head, put_all, Fails}
use Rattle.read_forms.proofs.Many.{put, many_step, many_stops, many_fails}
use Rattle.read_body.specs.Body.{plain_goes, plain_at, kept_at}
use Rattle.read_body.proofs.Laws.{plain_shrinks}

abbrev kept : Result (List Inst × List Lexeme) ℕ → Result (List Inst × List Lexeme) ℕ
kept a = then_read a (λ insts. done (filter is_kept insts))

in_front : (x : Inst) (xs : List Inst) (c : Bool) → cond c (x ∷ xs) xs ≡ cond c (x ∷ []) [] ++ xs
in_front x xs true = refl
in_front x xs false = refl

kept_put : (x : Inst) (a : Result (List Inst × List Lexeme) ℕ) → kept (put x a) ≡ put_all (filter is_kept (x ∷ [])) (kept a)
unfolding put
kept_put x (Ok q) = ap (λ (l : List Inst). Ok (l, q.1)) (in_front x (filter is_kept q.0) (is_kept x))
kept_put x (Err n) = refl

put_twice : (out more : List Inst) (a : Result (List Inst × List Lexeme) ℕ) → put_all out (put_all more a) ≡ put_all (out ++ more) a
put_twice out more (Ok q) = ap (λ (l : List Inst). Ok (l, q.1)) (sym (append_assoc out more q.0))
put_twice out more (Err n) = refl

-- a loop, after what it has read
module _ (a : Result (List Inst × List Lexeme) ℕ) (out : List Inst) (rest : List Lexeme) (so_far : a ≡ put_all out (kept_at rest)) where
  pub kept_more : (after : List Lexeme) (x : Inst) → plain_goes (head rest) ≡ true → plain_at rest ≡ Ok (x, after) → a ≡ put_all (out ++ filter is_kept (x ∷ [])) (kept_at after)
  unfolding kept_at
  kept_more after x g e = so_far ∙ ap (λ (r : Result (List Inst × List Lexeme) ℕ). put_all out (kept r)) (many_step plain_goes plain_at plain_shrinks refl rest x after g e) ∙ ap (put_all out) (kept_put x _) ∙ put_twice out (filter is_kept (x ∷ [])) _

  pub kept_ends : plain_goes (head rest) ≡ false → a ≡ Ok (out, rest)
  unfolding kept_at
  kept_ends g = so_far ∙ ap (λ (r : Result (List Inst × List Lexeme) ℕ). put_all out (kept r)) (many_stops plain_goes plain_at plain_shrinks refl rest g) ∙ ap (λ (l : List Inst). Ok (l, rest)) (append-nil out)

  pub kept_fails : (e : Or ℕ) → plain_goes (head rest) ≡ true → Fails e (plain_at rest) → Fails e a
  unfolding kept_at
  kept_fails Memory g k = tt
  kept_fails (Refused n) g k = so_far ∙ ap (λ (r : Result (List Inst × List Lexeme) ℕ). put_all out (kept r)) (many_fails plain_goes plain_at plain_shrinks refl rest n g k)
