-- Reading initializers, in the same steps as the grammar.
use Rattle.std.specs.Prelude.{ℕ, zero, suc, List, [], ◌∷◌, codes, drop, if◌then◌else◌}
use Rattle.std.specs.Prelude.{Option, Some as Present, None as Absent}
use Rattle.ir_core.specs.declared.types.Ty.{Ty}
use Rattle.ir_core.specs.declared.module.Init.{Init}
use Rattle.ir_core.specs.declared.module.Init.TheVariants.{Zero, Int as IntInit, Null as NullInit, Addr, Bytes, Square, Braces}
use Rattle.ir_core.specs.declared.module.Element.{Element}
use Rattle.ir_core.specs.Tokens.{Lexeme, TokenKind, Word, Global, Number, CText}
use Rattle.ir_core.specs.Numbers.{is_number_in_range, kept_at}
use Rattle.ir_core.specs.Escapes.{stem_name, quoted_bytes}
use Rattle.ir_core.specs.Forms.{nesting_limit}
use Rattle.ir_core.specs.Language.{InitForm, PlainInit, SquareInit, BracesInit}
use Rattle.read_forms.specs.Read.{Read, ◌>>=◌, done, one_at, pick, list_at, as_mark, is_mark, look_up}
use Rattle.read_forms.specs.Forms.{type_at}

abbrev pub init_words : List (List ℕ × Init)
init_words = (codes "zeroinitializer", Zero) ∷ (codes "null", NullInit) ∷ (codes "true", IntInit 1) ∷ (codes "false", IntInit 0) ∷ []

abbrev pub number_init : Ty → List ℕ → Option Init
number_init ty bytes = if is_number_in_range bytes then Present (IntInit (kept_at ty bytes)) else Absent

abbrev pub plain_by : Ty → List ℕ → TokenKind → Option Init
plain_by ty bytes Number = number_init ty bytes
plain_by ty bytes Word = look_up init_words bytes
plain_by ty bytes Global = Present (Addr (stem_name (drop 1 bytes)))
plain_by ty bytes CText = Present (Bytes (quoted_bytes (drop 1 bytes)))
plain_by ty bytes _ = Absent

-- an initializer of one token
abbrev pub as_plain_init : Ty → Lexeme → Option Init
as_plain_init ty t = plain_by ty t.bytes t.kind

unfoldable pub element_at : (Ty → Read Init) → Read Element
element_at f = do
  ty ← type_at
  init ← f ty
  done (record { ty = ty; init = init })

unfoldable pub square_at : Read Element → Read Init
square_at f = do
  open_ ← one_at (as_mark 91)
  elements ← list_at 93 f
  done (Square elements)

unfoldable pub braces_at : Read Element → Read Init
braces_at f = do
  open_ ← one_at (as_mark 123)
  elements ← list_at 125 f
  done (Braces elements)

abbrev pub init_at_form : Read Element → Ty → InitForm → Read Init
init_at_form f ty PlainInit = one_at (as_plain_init ty)
init_at_form f ty SquareInit = square_at f
init_at_form f ty BracesInit = braces_at f

abbrev pub init_form_of : Lexeme → InitForm
init_form_of t = if is_mark 91 t.kind then SquareInit else if is_mark 123 t.kind then BracesInit else PlainInit

abbrev pub init_ahead : Option Lexeme → Option InitForm
init_ahead Absent = Absent
init_ahead (Present t) = Present (init_form_of t)

unfoldable pub init_in_at : ℕ → Ty → Read Init
init_in_at zero ty = one_at (as_plain_init ty)
init_in_at (suc depth) ty = pick init_ahead (init_at_form (element_at (init_in_at depth)) ty)

unfoldable pub init_at : Ty → Read Init
init_at ty = init_in_at nesting_limit ty
