-- Many that each give some: what all of them give, in order.
use Rattle.std.specs.Prelude.{List, Bool, Option}
use Rattle.std.specs.List.{flat_map}
use Rattle.ir_core.specs.Tokens.{Lexeme}
use Rattle.read_forms.specs.Read.{Read, then_read, done, many_at}

abbrev pub all_of : {X : Type 0} → List (List X) → List X
all_of xss = flat_map (λ xs. xs) xss

abbrev pub gathered_at : {X : Type 0} → (Option Lexeme → Bool) → Read (List X) → Read (List X)
gathered_at p f ts = then_read (many_at p f ts) (λ xss. done (all_of xss))
