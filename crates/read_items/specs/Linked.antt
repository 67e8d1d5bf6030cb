-- Items of which one can begin the next: it goes on with what it has begun, and else as long as one more begins.
use Rattle.std.specs.Prelude.{◌≡◌, ℕ, zero, suc, List, [], ◌∷◌, ◌++◌, length, Option, Some, None, Ok, Bool, true, false}
use Rattle.ir_core.specs.Tokens.{Lexeme}
use Rattle.read_forms.specs.Read.{Read, then_read, head}

-- ---- what is spelled so: each item, and what it has begun of the next

abbrev pub Linked : {X A : Type 0} → (Option A → List Lexeme → X × Option A → Type 0) → Option A → List Lexeme → List X → Type 0
Linked S a ts [] = (a ≡ None) × (ts ≡ [])
Linked {X} {A} S a ts (x ∷ xs) = (b : Option A) × (front rest : List Lexeme) × S a front (x, b) × Linked S b rest xs × (ts ≡ front ++ rest)

-- ---- reading it

abbrev pub link_goes : {A : Type 0} → (Option Lexeme → Bool) → Option A → Option Lexeme → Bool
link_goes p None t = p t
link_goes p (Some a) t = true

abbrev pub link : {X A : Type 0} → Bool → Read (X × Option A) → (Option A → Read (List X)) → Read (List X)
link false f more ts = Ok ([], ts)
link true f more ts = then_read (f ts) (λ x r. then_read (more x.1 r) (λ xs s. Ok (x.0 ∷ xs, s)))

-- in fewer turns than this
abbrev pub links : {X A : Type 0} → (Option Lexeme → Bool) → (Option A → Read (X × Option A)) → ℕ → Option A → Read (List X)
links p f zero a ts = Ok ([], ts)
links p f (suc n) a ts = link (link_goes p a (head ts)) (f a) (links p f n) ts

unfoldable pub linked_at : {X A : Type 0} → (Option Lexeme → Bool) → (Option A → Read (X × Option A)) → Option A → Read (List X)
linked_at p f a ts = links p f (suc (length ts)) a ts
