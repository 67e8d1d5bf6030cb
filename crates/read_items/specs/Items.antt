-- Reading the items of a module, one after another, and the module that they make.
use Rattle.std.specs.Prelude.{ℕ, List, [], ◌∷◌, codes, Bool, true, false, if◌then◌else◌}
use Rattle.std.specs.Prelude.{Option, Some as Present, None as Absent}
use Rattle.ir_core.specs.declared.module.Module.{Module}
use Rattle.ir_core.specs.Tokens.{Lexeme, TokenKind, Passive}
use Rattle.ir_core.specs.Forms.{begins_with_llvm}
use Rattle.ir_core.specs.Language.{Item, TypeItem, VariableItem, FunctionItem, LineItem, module_of}
use Rattle.read_forms.specs.Read.{Read, ◌>>=◌, done, one_at, pick, goes, whole, as_global, as_mark, as_table, is_local, with_line_of}
use Rattle.read_items.specs.Linked.{linked_at}
use Rattle.read_items.specs.Globals.{Named, global_at, type_def_at}
use Rattle.read_items.specs.Functions.{definition_at, declaration_at}

-- ---- how an item begins

abbrev pub item_name_by : Bool → List ℕ → Option (List ℕ)
item_name_by true x = Absent
item_name_by false x = Present x

abbrev pub no_llvm : Option (List ℕ) → Option (List ℕ)
no_llvm Absent = Absent
no_llvm (Present x) = item_name_by (begins_with_llvm x) x

-- a global's name that begins an item
abbrev pub as_item_name : Lexeme → Option (List ℕ)
as_item_name t = no_llvm (as_global t)

abbrev pub is_passive : TokenKind → Bool
is_passive Passive = true
is_passive _ = false

abbrev pub as_line : Lexeme → Option (List ℕ)
as_line t = if is_passive t.kind then Present t.bytes else Absent

pub data ItemForm : Type 0 where
  TypeForm : ItemForm
  VariableForm : ItemForm
  DefinitionForm : ItemForm
  DeclarationForm : ItemForm
  LineForm : ItemForm

abbrev pub item_form_words : List (List ℕ × ItemForm)
item_form_words = (codes "define", DefinitionForm) ∷ (codes "declare", DeclarationForm) ∷ []

abbrev pub word_or_line : Lexeme → Option ItemForm
word_or_line t = if is_passive t.kind then Present LineForm else as_table item_form_words t

abbrev pub item_form_of : Lexeme → Option ItemForm
item_form_of t = if is_local t.kind then Present TypeForm else if goes (as_item_name t) then Present VariableForm else word_or_line t

abbrev pub item_ahead : Option Lexeme → Option ItemForm
item_ahead Absent = Absent
item_ahead (Present t) = item_form_of t

abbrev pub item_goes : Option Lexeme → Bool
item_goes t = goes (item_ahead t)

-- ---- items, and what is begun of the next

unfoldable pub begun_at : Named → Read (Item × Option Named)
begun_at name = do
  g ← global_at name
  done (VariableItem g.0, g.1)

unfoldable pub type_item_at : Read (Item × Option Named)
type_item_at = do
  d ← type_def_at
  done (TypeItem d, Absent)

unfoldable pub variable_item_at : Read (Item × Option Named)
variable_item_at = do
  name ← one_at (with_line_of as_item_name)
  equals ← one_at (as_mark 61)
  begun_at name

unfoldable pub definition_item_at : Read (Item × Option Named)
definition_item_at = do
  f ← definition_at
  done (FunctionItem f, Absent)

unfoldable pub declaration_item_at : Read (Item × Option Named)
declaration_item_at = do
  f ← declaration_at
  done (FunctionItem f, Absent)

unfoldable pub line_item_at : Read (Item × Option Named)
line_item_at = do
  line ← one_at as_line
  done (LineItem line, Absent)

abbrev pub item_at_form : ItemForm → Read (Item × Option Named)
item_at_form TypeForm = type_item_at
item_at_form VariableForm = variable_item_at
item_at_form DefinitionForm = definition_item_at
item_at_form DeclarationForm = declaration_item_at
item_at_form LineForm = line_item_at

-- the next item, of which the name is read already or not
abbrev pub item_at : Option Named → Read (Item × Option Named)
item_at Absent = pick item_ahead item_at_form
item_at (Present name) = begun_at name

abbrev pub items_at : Read (List Item)
items_at = linked_at item_goes item_at Absent

unfoldable pub items_module_at : Read Module
items_module_at = do
  items ← items_at
  done (module_of items)

abbrev pub module_at : Read Module
module_at = whole items_module_at
