-- Reading globals and types, in the same steps as the grammar. Behind the type of a global without an initializer the name of the next
-- one can stand: what it is only the token behind it tells, so the next one is then begun already.
use Rattle.std.specs.Prelude.{ℕ, List, [], ◌∷◌, codes, Bool, true, false, if◌then◌else◌}
use Rattle.std.specs.Prelude.{Option, Some as Present, None as Absent}
use Rattle.std.specs.List.{flat_map}
use Rattle.ir_core.specs.declared.types.Ty.{Ty}
use Rattle.ir_core.specs.declared.module.Init.{Init}
use Rattle.ir_core.specs.declared.module.Init.TheVariants.{Addr}
use Rattle.ir_core.specs.declared.module.Global.{Global as GlobalItem}
use Rattle.ir_core.specs.declared.module.TypeDef.{TypeDef}
use Rattle.ir_core.specs.Tokens.{Lexeme, TokenKind, Global, Number, CText}
use Rattle.ir_core.specs.Forms.{begins_with_llvm}
use Rattle.ir_core.specs.Instructions.{conventions}
use Rattle.ir_core.specs.Language.{InitForm, PlainInit, SquareInit, BracesInit, item_words, constness}
use Rattle.read_forms.specs.Read.{Read, ◌>>=◌, done, head, one_at, pick, goes, many_at, maybe_at, either_at, at_word, as_local, as_global, as_mark, as_word, as_table, as_one_of, at_mark, after_comma_at, is_mark, is_global, with_line_of}
use Rattle.read_forms.specs.Forms.{type_at, alignment_at}
use Rattle.read_ends.specs.Ends.{as_text, next_alignment_at}
pub use Rattle.read_items.specs.declared.globals.Contents.{Contents}
use Rattle.read_items.specs.Inits.{init_words, plain_by, element_at, square_at, braces_at, init_ahead, init_in_at}

-- ---- words

abbrev pub item_word_by : Option (Unit {0}) → Option (Unit {0}) → List ℕ → Option (List (List ℕ))
item_word_by (Present u) convention bytes = Present (bytes ∷ [])
item_word_by Absent (Present u) bytes = Present []
item_word_by Absent Absent bytes = Absent

abbrev pub as_item_word : Lexeme → Option (List (List ℕ))
as_item_word t = item_word_by (as_one_of item_words t) (as_one_of conventions t) t.bytes

abbrev pub item_word_goes : Option Lexeme → Bool
item_word_goes Absent = false
item_word_goes (Present t) = goes (as_item_word t)

unfoldable pub kept_words_at : Read (List (List ℕ))
kept_words_at = do
  words ← many_at item_word_goes (one_at as_item_word)
  done (flat_map (λ ws. ws) words)

-- ---- what stands behind commas: [, section ".."] [, comdat] [, align A]

unfoldable pub comdat_first_at : Read ℕ
comdat_first_at = do
  w ← one_at (as_word (codes "comdat"))
  next_alignment_at

abbrev pub last_piece_at : Read ℕ
last_piece_at = either_at (at_word (codes "comdat")) comdat_first_at alignment_at

unfoldable pub last_pieces_at : Read ℕ
last_pieces_at = maybe_at 0 (at_mark 44) (after_comma_at last_piece_at)

unfoldable pub section_first_at : Read ℕ
section_first_at = do
  w ← one_at (as_word (codes "section"))
  text ← one_at as_text
  last_pieces_at

unfoldable pub tail_at : Read ℕ
tail_at = maybe_at 0 (at_mark 44) (after_comma_at (either_at (at_word (codes "section")) section_first_at last_piece_at))

-- ---- contents: the initializer, the alignment, and the name of the next global where that is begun

abbrev pub Named : Type 0
Named = List ℕ × ℕ

abbrev pub holding : Option Init → ℕ → Contents
holding init align = record { init = init; align = align; next = Absent }

unfoldable pub address_at : Named → Read Contents
address_at x = do
  align ← tail_at
  done (holding (Present (Addr x.0)) align)

unfoldable pub next_begins_at : Named → Read Contents
next_begins_at x = do
  equals ← one_at (as_mark 61)
  done (record { init = Absent; align = 0; next = Present x })

-- the one where the test holds of the next token, else the other
abbrev pub else_at : {X : Type 0} → (Option Lexeme → Bool) → Read X → Read X → Read X
else_at p f g ts = if p (head ts) then f ts else g ts

-- llvm's own names begin no item
abbrev pub by_name_at : Named → Bool → Read Contents
by_name_at x true = address_at x
by_name_at x false = else_at (at_mark 61) (next_begins_at x) (address_at x)

unfoldable pub named_contents_at : Read Contents
named_contents_at = do
  x ← one_at (with_line_of as_global)
  by_name_at x (begins_with_llvm x.0)

abbrev pub other_by : Ty → List ℕ → TokenKind → Option Init
other_by ty bytes Global = Absent
other_by ty bytes kind = plain_by ty bytes kind

-- an initializer of one token that is no name
abbrev pub as_other_init : Ty → Lexeme → Option Init
as_other_init ty t = other_by ty t.bytes t.kind

-- 31 brackets
unfoldable pub inner_limit : ℕ
inner_limit = 31

abbrev pub other_init_at_form : Ty → InitForm → Read Init
other_init_at_form ty PlainInit = one_at (as_other_init ty)
other_init_at_form ty SquareInit = square_at (element_at (init_in_at inner_limit))
other_init_at_form ty BracesInit = braces_at (element_at (init_in_at inner_limit))

unfoldable pub other_contents_at : Ty → Read Contents
other_contents_at ty = do
  init ← pick init_ahead (other_init_at_form ty)
  align ← tail_at
  done (holding (Present init) align)

pub data ContentsForm : Type 0 where
  NameFirst : ContentsForm
  OtherFirst : ContentsForm

abbrev pub contents_at_form : Ty → ContentsForm → Read Contents
contents_at_form ty NameFirst = named_contents_at
contents_at_form ty OtherFirst = other_contents_at ty

abbrev pub contents_form_of : Lexeme → ContentsForm
contents_form_of t = if is_global t.kind then NameFirst else OtherFirst

abbrev pub contents_ahead : Option Lexeme → Option ContentsForm
contents_ahead Absent = Absent
contents_ahead (Present t) = Present (contents_form_of t)

abbrev pub with_init_at : Ty → Read Contents
with_init_at ty = pick contents_ahead (contents_at_form ty)

unfoldable pub bare_at : Read Contents
bare_at = do
  align ← tail_at
  done (holding Absent align)

abbrev pub init_starts_by : TokenKind → List ℕ → Bool
init_starts_by Global bytes = true
init_starts_by Number bytes = true
init_starts_by CText bytes = true
init_starts_by kind bytes = if is_mark 91 kind then true else is_mark 123 kind

abbrev pub init_starts : Lexeme → Bool
init_starts t = if goes (as_table init_words t) then true else init_starts_by t.kind t.bytes

abbrev pub init_goes : Option Lexeme → Bool
init_goes Absent = false
init_goes (Present t) = init_starts t

abbrev pub contents_at : Ty → Read Contents
contents_at ty = else_at init_goes (with_init_at ty) bare_at

-- ---- globals

abbrev pub global_item : Named → List (List ℕ) → Bool → Ty → Contents → GlobalItem
global_item name words constant ty c = record { name = name.0; words = words; constant = constant; ty = ty; init = c.init; align = c.align; line = name.1 }

-- what stands behind a name and the = behind it, and the name of the next global where that is begun
unfoldable pub global_at : Named → Read (GlobalItem × Option Named)
global_at name = do
  words ← kept_words_at
  constant ← one_at (as_table constness)
  ty ← type_at
  c ← contents_at ty
  done (global_item name words constant ty c, c.next)

-- ---- types

unfoldable pub type_def_at : Read TypeDef
type_def_at = do
  name ← one_at (with_line_of as_local)
  equals ← one_at (as_mark 61)
  w ← one_at (as_word (codes "type"))
  body ← type_at
  done (record { name = name.0; body = body; line = name.1 })
