-- The tokens of a text are determined.
use Rattle.std.proofs.Common.{◌≡◌, ℕ, List, take, sym, ◌∙◌, ap}
use Rattle.ir_core.specs.Tokens as meaning
use Rattle.ir_core.specs.Tokens.{text_limit, text_start, with_past, Lexes, tokens_from}
use Rattle.ir_core.proofs.Lexing.{same_pieces}

pub one_lexing : (text : List ℕ) (a b : List meaning.Token) → Lexes text a → Lexes text b → a ≡ b
one_lexing text a b l m = l.2 ∙ ap (λ ps. with_past text (tokens_from (take text_limit text) 0 ps)) (same_pieces text_start (take text_limit text) l.0 m.0 l.1 m.1) ∙ sym m.2
