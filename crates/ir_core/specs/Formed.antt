-- Modules that some text of bytes spells, and a text that spells a module, each but for lines.
use Rattle.std.specs.Prelude.{◌≡◌, ℕ, List, Bool, true, nat_lt}
use Rattle.ir_core.specs.declared.module.Module.{Module}
use Rattle.ir_core.specs.Bytes.{every}
use Rattle.ir_core.specs.Tokens.{Piece, Pieces, text_start, tokens_from, lexemes}
use Rattle.ir_core.specs.Language.{Reads, module_to_end}
use Rattle.ir_core.specs.Lines.{SameButLines}

-- what an escape can write
abbrev pub is_byte : ℕ → Bool
is_byte c = nat_lt c 256

-- were texts of any length read, some text of bytes would spell the module but for its lines
pub record Formed (m : Module) : Type 0 where
  pub text : List ℕ
  pub bytes : every is_byte text ≡ true
  pub pieces : List Piece
  pub whole : Pieces text_start text pieces
  pub spelled : Module
  pub spells : module_to_end (lexemes text (tokens_from text 0 pieces)) spelled
  pub same : SameButLines m spelled

-- the text spells the module but for its lines
abbrev pub ReadsBack : List ℕ → Module → Type 0
ReadsBack text m = (n : Module) × Reads text n × SameButLines m n
