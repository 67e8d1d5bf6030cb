-- Operands, each one token.
use Rattle.std.specs.Prelude.{ℕ, List, [], ◌∷◌, codes, drop, if◌then◌else◌}
use Rattle.std.specs.Prelude.{Option, Some as Present, None as Absent}
use Rattle.ir_core.specs.declared.types.Ty.{Ty}
use Rattle.ir_core.specs.declared.instructions.Value.{Value}
use Rattle.ir_core.specs.declared.instructions.Value.TheVariants.{Int as IntValue, Null, Local as Register, Global as GlobalValue}
use Rattle.ir_core.specs.Tokens.{Lexeme, TokenKind, Word, Local, Global, Number}
use Rattle.ir_core.specs.Numbers.{is_number_in_range, kept_at}
use Rattle.ir_core.specs.Escapes.{stem_name}
use Rattle.read_forms.specs.Read.{look_up}

-- the words among the operands
abbrev pub literals : List (List ℕ × Value)
literals = (codes "true", IntValue 1) ∷ (codes "false", IntValue 0) ∷ (codes "null", Null) ∷ []

abbrev pub as_number : Ty → List ℕ → Option Value
as_number ty bytes = if is_number_in_range bytes then Present (IntValue (kept_at ty bytes)) else Absent

abbrev pub value_by : Ty → List ℕ → TokenKind → Option Value
value_by ty bytes Number = as_number ty bytes
value_by ty bytes Word = look_up literals bytes
value_by ty bytes Local = Present (Register (stem_name (drop 1 bytes)))
value_by ty bytes Global = Present (GlobalValue (stem_name (drop 1 bytes)))
value_by ty bytes _ = Absent

-- an operand of a type
abbrev pub as_value : Ty → Lexeme → Option Value
as_value ty t = value_by ty t.bytes t.kind
