-- Which tokens are refused.
use Rattle.std.specs.Prelude.{ℕ, List}
use Rattle.ir_core.specs.declared.answers.Or.{Or}
use Rattle.ir_core.specs.declared.answers.Or.TheVariants.{Refused, Memory}
use Rattle.ir_core.specs.Tokens.{Lexeme}
use Rattle.ir_core.specs.Spell.{IsFirstRefused}
use Rattle.ir_core.specs.Language.{module_to_end}

-- the first token with which no text goes on, unless memory ran out
abbrev pub IsTokenRefusal : List Lexeme → Or ℕ → Type 0
IsTokenRefusal ts (Refused left) = IsFirstRefused module_to_end ts left
IsTokenRefusal ts Memory = Unit {0}
