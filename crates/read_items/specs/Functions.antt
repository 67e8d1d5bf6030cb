-- Reading functions, in the same steps as the grammar.
use Rattle.std.specs.Prelude.{ℕ, List, [], ◌∷◌, ◌++◌, map, take, codes, Bool, true, false, if◌then◌else◌}
use Rattle.std.specs.Prelude.{Option, Some as Present, None as Absent}
use Rattle.std.specs.List.{flat_map}
use Rattle.std.specs.Str.{bytes_eq}
use Rattle.ir_core.specs.declared.module.Function.{Function}
use Rattle.ir_core.specs.declared.module.Block.{Block}
use Rattle.ir_core.specs.Tokens.{Lexeme}
use Rattle.ir_core.specs.Instructions.{plain_function_words}
use Rattle.ir_core.specs.Language.{Unnumbered, params_behind, param_name, next_number, Heading, FunctionWordForm, KeptGroup, PlainWord, TextWord, Section, Comdat, Aligned, Attached, function_item}
use Rattle.read_forms.specs.Read.{Read, ◌>>=◌, done, head, one_at, pick, goes, many_at, maybe_at, list_at, as_local, as_global, as_mark, as_word, as_table, as_one_of, all_for, is_word, is_local, at_mark}
use Rattle.read_forms.specs.Forms.{as_length, type_at, result_type_at, space_goes, attribute_goes, attributes_at}
use Rattle.read_ends.specs.Ends.{as_text, attachment_at, is_meta_name, is_group, is_text}
use Rattle.read_body.specs.Body.{body_at, label_goes, block_at}
use Rattle.read_items.specs.Globals.{kept_words_at, else_at}

-- ---- the words behind the parameters

abbrev pub dollar_by : Bool → Bool → Option (Unit {0})
dollar_by true true = Present tt
dollar_by _ _ = Absent

abbrev pub as_dollar : Lexeme → Option (Unit {0})
as_dollar t = dollar_by (is_word t.kind) (bytes_eq (take 1 t.bytes) (codes "$"))

unfoldable pub comdat_name_at : Read (Unit {0})
comdat_name_at = do
  open_ ← one_at (as_mark 40)
  name ← one_at as_dollar
  close ← one_at (as_mark 41)
  done tt

unfoldable pub text_value_at : Read (Unit {0})
text_value_at = do
  equals ← one_at (as_mark 61)
  one_at as_text

abbrev pub kept_group_by : Bool → List ℕ → Option (List (List ℕ))
kept_group_by true bytes = Present (bytes ∷ [])
kept_group_by false bytes = Absent

abbrev pub as_kept_group : Lexeme → Option (List (List ℕ))
as_kept_group t = kept_group_by (is_group t.kind) t.bytes

unfoldable pub plain_word_at : Read (List (List ℕ))
plain_word_at = do
  w ← one_at (as_one_of plain_function_words)
  done []

unfoldable pub text_word_at : Read (List (List ℕ))
text_word_at = do
  text ← one_at as_text
  more ← maybe_at tt (at_mark 61) text_value_at
  done []

unfoldable pub section_at : Read (List (List ℕ))
section_at = do
  w ← one_at (as_word (codes "section"))
  text ← one_at as_text
  done []

unfoldable pub comdat_at : Read (List (List ℕ))
comdat_at = do
  w ← one_at (as_word (codes "comdat"))
  name ← maybe_at tt (at_mark 40) comdat_name_at
  done []

unfoldable pub aligned_word_at : Read (List (List ℕ))
aligned_word_at = do
  w ← one_at (as_word (codes "align"))
  n ← one_at as_length
  done []

unfoldable pub attached_word_at : Read (List (List ℕ))
attached_word_at = do
  a ← attachment_at
  done []

abbrev pub function_word_at_form : FunctionWordForm → Read (List (List ℕ))
function_word_at_form KeptGroup = one_at as_kept_group
function_word_at_form PlainWord = plain_word_at
function_word_at_form TextWord = text_word_at
function_word_at_form Section = section_at
function_word_at_form Comdat = comdat_at
function_word_at_form Aligned = aligned_word_at
function_word_at_form Attached = attached_word_at

abbrev pub long_words : List (List ℕ × FunctionWordForm)
long_words = (codes "section", Section) ∷ (codes "comdat", Comdat) ∷ (codes "align", Aligned) ∷ []

abbrev pub function_words : List (List ℕ × FunctionWordForm)
function_words = all_for PlainWord plain_function_words ++ long_words

abbrev pub meta_form : Lexeme → Option FunctionWordForm
meta_form t = if is_meta_name t then Present Attached else as_table function_words t

abbrev pub function_word_of : Lexeme → Option FunctionWordForm
function_word_of t = if is_group t.kind then Present KeptGroup else if is_text t.kind then Present TextWord else meta_form t

abbrev pub function_word_ahead : Option Lexeme → Option FunctionWordForm
function_word_ahead Absent = Absent
function_word_ahead (Present t) = function_word_of t

abbrev pub function_word_goes : Option Lexeme → Bool
function_word_goes t = goes (function_word_ahead t)

abbrev pub function_word_at : Read (List (List ℕ))
function_word_at = pick function_word_ahead function_word_at_form

unfoldable pub groups_at : Read (List (List ℕ))
groups_at = do
  words ← many_at function_word_goes function_word_at
  done (flat_map (λ gs. gs) words)

-- ---- parameters

unfoldable pub some_local_at : Read (Option (List ℕ))
some_local_at = do
  x ← one_at as_local
  done (Present x)

abbrev pub local_goes : Option Lexeme → Bool
local_goes Absent = false
local_goes (Present t) = is_local t.kind

unfoldable pub param_at : Read Unnumbered
param_at = do
  before ← attributes_at
  ty ← type_at
  behind ← attributes_at
  name ← maybe_at Absent local_goes some_local_at
  done (ty, name)

unfoldable pub param_type_at : Read Unnumbered
param_type_at = do
  before ← attributes_at
  ty ← type_at
  behind ← attributes_at
  done (ty, Absent)

-- what a parameter would go on with
abbrev pub param_goes : Option Lexeme → Bool
param_goes t = if attribute_goes t then true else if space_goes t then true else local_goes t

-- ---- functions

unfoldable pub heading_at : Read Heading
heading_at = do
  words ← kept_words_at
  before ← attributes_at
  result ← result_type_at
  name ← one_at as_global
  open_ ← one_at (as_mark 40)
  done (record { words = words; result = result; name = name })

abbrev pub first_line : Option Lexeme → ℕ
first_line Absent = 1
first_line (Present t) = t.line

-- a first block without a label is named by the number, and has the line of its first token
unfoldable pub unlabelled_at : List ℕ → Read Block
unlabelled_at number ts = body_at (number, first_line (head ts)) ts

abbrev pub first_block_at : List ℕ → Read Block
first_block_at number = else_at label_goes block_at (unlabelled_at number)

unfoldable pub blocks_at : List ℕ → Read (List Block)
blocks_at number = do
  open_ ← one_at (as_mark 123)
  first ← first_block_at number
  more ← many_at label_goes block_at
  close ← one_at (as_mark 125)
  done (first ∷ more)

unfoldable pub definition_at : Read Function
definition_at = do
  line ← one_at (as_word (codes "define"))
  h ← heading_at
  ps ← list_at 41 param_at
  gs ← groups_at
  bs ← blocks_at (next_number (map param_name (params_behind [] ps)))
  done (function_item line h (params_behind [] ps) gs bs)

unfoldable pub declaration_at : Read Function
declaration_at = do
  line ← one_at (as_word (codes "declare"))
  h ← heading_at
  ps ← list_at 41 param_type_at
  gs ← groups_at
  done (function_item line h (params_behind [] ps) gs [])
