-- What texts spell, of which no two have the same bytes.
use Rattle.std.proofs.Common.{◌≡◌, ℕ, List, [], ◌∷◌, take, refl, sym, ◌∙◌, subst}
use Rattle.ir_core.specs.declared.module.Module.{Module}
use Rattle.ir_core.specs.Tokens.{Lexeme, Token, Lexes, lexemes, text_limit}
use Rattle.ir_core.specs.declared.refusal.Refusal.{Refusal}
use Rattle.ir_core.specs.Spell.{SameNext}
use Rattle.ir_core.specs.TextRefusals.{IsTextRefusal}
use Rattle.ir_core.specs.Language.{module_to_end, Reads}
use Rattle.read_forms.proofs.Readers.{ok_parts}
use Rattle.read_items.proofs.Text.{module_only}
use Rattle.ir_lex.proofs.Whole.{one_lexing as one_list}

-- no tokens spell two modules
one_spelled : (ts : List Lexeme) (a b : Module) → module_to_end ts a → module_to_end ts b → a ≡ b
one_spelled ts a b p q = (ok_parts a b [] [] (sym (module_only ts a p) ∙ module_only ts b q)).0

-- whatever a text spells its tokens spell
tokens_spell : (text : List ℕ) (ts : List Token) → Lexes text ts → (m : Module) → Reads text m → module_to_end (lexemes (take text_limit text) ts) m
tokens_spell text ts h m r = subst (λ l. module_to_end (lexemes (take text_limit text) l) m) (one_list text r.0 ts r.1 h) r.2

same_next : (ts : List Lexeme) → SameNext ts ts
same_next [] = tt
same_next (t ∷ ts) = refl

-- a text that is refused spells no module
pub text_refused : (text : List ℕ) (r : Refusal) → IsTextRefusal text r → (m : Module) → Reads text m → ⊥
text_refused text r h m reads = h.first.no_text h.first.rest m (same_next h.first.rest) (subst (λ l. module_to_end l m) h.first.is (tokens_spell text h.tokens h.lexes m reads))

pub one_text : (text : List ℕ) (a b : Module) → Reads text a → Reads text b → a ≡ b
one_text text a b p q = one_spelled (lexemes (take text_limit text) p.0) a b p.2 (tokens_spell text p.0 p.1 b q)
