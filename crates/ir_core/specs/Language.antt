-- The language: which tokens spell which module (LLVM Language Reference, "High Level Structure"), for the integer subset.
use Rattle.std.specs.Prelude.{if◌then◌else◌, ◌≡◌, ℕ, zero, suc, List, [], ◌∷◌, ◌++◌, length, take, drop, map, codes, decimal, ◌⊎◌, Bool, true, false, not}
use Rattle.std.specs.Prelude.{Some as Present, None as Absent, Option}
use Rattle.std.specs.List.{filter, flat_map}
use Rattle.std.specs.Str.{bytes_eq}
use Rattle.ir_core.specs.declared.types.Ty.{Ty}
use Rattle.ir_core.specs.declared.instructions.Value.TheVariants.{Int as IntValue}
use Rattle.ir_core.specs.declared.module.Module.{Module}
use Rattle.ir_core.specs.declared.module.TypeDef.{TypeDef}
use Rattle.ir_core.specs.declared.module.Global.{Global as GlobalItem}
use Rattle.ir_core.specs.declared.module.Init.{Init}
use Rattle.ir_core.specs.declared.module.Init.TheVariants.{Zero, Int as IntInit, Null as NullInit, Addr, Bytes, Square, Braces}
use Rattle.ir_core.specs.declared.module.Element.{Element}
use Rattle.ir_core.specs.declared.module.Function.{Function}
use Rattle.ir_core.specs.declared.module.Param.{Param}
use Rattle.ir_core.specs.declared.module.Block.{Block}
use Rattle.ir_core.specs.Tokens.{Lexeme, Token, CText, Passive, Word, Lexes, lexemes, text_limit}
use Rattle.ir_core.specs.Text.{is_digits}
use Rattle.ir_core.specs.Escapes.{quoted_bytes}
use Rattle.ir_core.specs.Spell.{◌>>=◌, Spell, done, one, any, many, IsWordIn, IsWord, word, mark, with_line, list_to}
use Rattle.ir_core.specs.Forms.{maybe, token, IsLocal, IsGlobal, IsItemName, IsLength, nesting_limit, type_, result_type, IsOneOf, attributes, IsValue, next}
use Rattle.ir_core.specs.Instructions.{next_alignment, attachment, IsText, conventions, plain_function_words, IsGroup, body_of, block}

-- ---- numbers as names: what has none takes the count of the names before it in its function that are numbers

abbrev pub next_number : List (List ℕ) → List ℕ
next_number names = decimal (length (filter is_digits names))

abbrev pub name_or : Option (List ℕ) → List ℕ → List ℕ
name_or (Present x) number = x
name_or Absent number = number

-- a parameter's type, and its name where it has one
abbrev pub Unnumbered : Type 0
Unnumbered = Ty × Option (List ℕ)

-- the parameters behind these names
abbrev pub params_behind : List (List ℕ) → List Unnumbered → List Param
params_behind names [] = []
params_behind names (p ∷ ps) =
    record { name = name_or p.1 (next_number names); ty = p.0 } ∷ params_behind (names ++ name_or p.1 (next_number names) ∷ []) ps

abbrev pub param_name : Param → List ℕ
param_name p = p.name

-- ---- functions

abbrev pub item_words : List (List ℕ)
item_words =
    codes "private" ∷ codes "internal" ∷ codes "available_externally" ∷ codes "linkonce" ∷ codes "linkonce_odr" ∷ codes "weak" ∷ codes "weak_odr" ∷ codes "common" ∷ codes "appending" ∷ codes "external"
    ∷ codes "default" ∷ codes "hidden" ∷ codes "protected" ∷ codes "dso_local" ∷ codes "dso_preemptable" ∷ codes "local_unnamed_addr" ∷ codes "unnamed_addr" ∷ codes "ptx_kernel" ∷ codes "amdgpu_kernel" ∷ []

-- a word of an item, which is kept, or a calling convention, which is dropped
abbrev pub IsItemWord : Lexeme → List (List ℕ) → Type 0
IsItemWord t words = (IsOneOf item_words t × (words ≡ t.bytes ∷ [])) ⊎ (IsOneOf conventions t × (words ≡ []))

abbrev pub kept_words : Spell (List (List ℕ))
kept_words = do
  words ← many (one IsItemWord)
  done (flat_map (λ ws. ws) words)

abbrev pub IsDollar : Lexeme → Type 0
IsDollar t = (t.kind ≡ Word) × (bytes_eq (take 1 t.bytes) (codes "$") ≡ true)

-- ($N)
abbrev pub comdat_name : Spell (Unit {0})
comdat_name = do
  open_ ← mark 40
  name ← token IsDollar
  close ← mark 41
  done tt

-- = ".."
abbrev pub text_value : Spell (Unit {0})
text_value = do
  equals ← mark 61
  token IsText

pub data FunctionWordForm : Type 0 where
  KeptGroup : FunctionWordForm
  PlainWord : FunctionWordForm
  TextWord : FunctionWordForm
  Section : FunctionWordForm
  Comdat : FunctionWordForm
  Aligned : FunctionWordForm
  Attached : FunctionWordForm

abbrev pub IsKeptGroup : Lexeme → List (List ℕ) → Type 0
IsKeptGroup t groups = IsGroup t × (groups ≡ t.bytes ∷ [])

-- attribute groups are kept, everything else is dropped
abbrev pub function_word : FunctionWordForm → Spell (List (List ℕ))
function_word KeptGroup = one IsKeptGroup
function_word PlainWord = do
  w ← token (IsOneOf plain_function_words)
  done []
function_word TextWord = do
  text ← token IsText
  more ← maybe tt text_value
  done []
function_word Section = do
  w ← word (codes "section")
  text ← token IsText
  done []
function_word Comdat = do
  w ← word (codes "comdat")
  name ← maybe tt comdat_name
  done []
function_word Aligned = do
  w ← word (codes "align")
  n ← one IsLength
  done []
function_word Attached = do
  a ← attachment
  done []

abbrev pub groups : Spell (List (List ℕ))
groups = do
  words ← many (any function_word)
  done (flat_map (λ gs. gs) words)

abbrev pub some_local : Spell (Option (List ℕ))
some_local = do
  x ← one IsLocal
  done (Present x)

abbrev pub param : Spell Unnumbered
param = do
  before ← attributes
  ty ← type_
  behind ← attributes
  name ← maybe Absent some_local
  done (ty, name)

abbrev pub param_type : Spell Unnumbered
param_type = do
  before ← attributes
  ty ← type_
  behind ← attributes
  done (ty, Absent)

-- WORDS T @N(
pub record Heading : Type 0 where
  pub words : List (List ℕ)
  pub result : Ty
  pub name : List ℕ

abbrev pub heading : Spell Heading
heading = do
  words ← kept_words
  before ← attributes
  result ← result_type
  name ← one IsGlobal
  open_ ← mark 40
  done (record { words = words; result = result; name = name })

-- a first block without a label takes the next number of its function, and the line of its first token
abbrev pub unlabelled : List ℕ → Spell Block
unlabelled number ts b = (line : ℕ) × body_of (number, line) ts b × ((t : Lexeme) (rest : List Lexeme) → ts ≡ t ∷ rest → t.line ≡ line)

abbrev pub first_block : List ℕ → Spell Block
first_block number ts b = block ts b ⊎ unlabelled number ts b

abbrev pub blocks : List ℕ → Spell (List Block)
blocks number = do
  open_ ← mark 123
  first ← first_block number
  more ← many block
  close ← mark 125
  done (first ∷ more)

abbrev pub function_item : ℕ → Heading → List Param → List (List ℕ) → List Block → Function
function_item line h params gs bs = record { name = h.name; words = h.words; ret = h.result; params = params; groups = gs; blocks = bs; line = line }

abbrev pub definition : Spell Function
definition = do
  line ← word (codes "define")
  h ← heading
  ps ← list_to 41 param
  gs ← groups
  bs ← blocks (next_number (map param_name (params_behind [] ps)))
  done (function_item line h (params_behind [] ps) gs bs)

abbrev pub declaration : Spell Function
declaration = do
  line ← word (codes "declare")
  h ← heading
  ps ← list_to 41 param_type
  gs ← groups
  done (function_item line h (params_behind [] ps) gs [])

-- ---- initializers

abbrev pub IsPlainInit : Ty → Lexeme → Init → Type 0
IsPlainInit ty t init =
    (IsWord (codes "zeroinitializer") t t.line × (init ≡ Zero))
    ⊎ (IsWord (codes "null") t t.line × (init ≡ NullInit))
    ⊎ ((n : ℕ) × IsValue ty t (IntValue n) × (init ≡ IntInit n))
    ⊎ ((x : List ℕ) × IsGlobal t x × (init ≡ Addr x))
    ⊎ ((t.kind ≡ CText) × (init ≡ Bytes (quoted_bytes (drop 1 t.bytes))))

pub data InitForm : Type 0 where
  PlainInit : InitForm
  SquareInit : InitForm
  BracesInit : InitForm

-- T INIT
abbrev pub element_of : (Ty → Spell Init) → Spell Element
element_of I = do
  ty ← type_
  init ← I ty
  done (record { ty = ty; init = init })

abbrev pub init_form : Spell Element → Ty → InitForm → Spell Init
init_form E ty PlainInit = one (IsPlainInit ty)
init_form E ty SquareInit = do
  open_ ← mark 91
  elements ← list_to 93 E
  done (Square elements)
init_form E ty BracesInit = do
  open_ ← mark 123
  elements ← list_to 125 E
  done (Braces elements)

-- an initializer with no more brackets open at once than this
abbrev pub init_in : ℕ → Ty → Spell Init
init_in zero ty = one (IsPlainInit ty)
init_in (suc depth) ty = any (init_form (element_of (init_in depth)) ty)

abbrev pub some_init : Ty → Spell (Option Init)
some_init ty = do
  init ← init_in nesting_limit ty
  done (Present init)

-- ---- globals and types

abbrev pub constness : List (List ℕ × Bool)
constness = (codes "global", false) ∷ (codes "constant", true) ∷ []

abbrev pub section_word : Spell (Unit {0})
section_word = do
  w ← word (codes "section")
  token IsText

abbrev pub comdat_word : Spell (Unit {0})
comdat_word = do
  w ← word (codes "comdat")
  done tt

-- WORDS global|constant T [INIT] [, section ".."] [, comdat] [, align A], behind a name and the = behind it
abbrev pub global_of : List ℕ × ℕ → Spell GlobalItem
global_of name = do
  words ← kept_words
  constant ← one (IsWordIn constness)
  ty ← type_
  init ← maybe Absent (some_init ty)
  sec ← maybe tt (next section_word)
  shared ← maybe tt (next comdat_word)
  align ← next_alignment
  done (record { name = name.0; words = words; constant = constant; ty = ty; init = init; align = align; line = name.1 })

-- @N = ..
abbrev pub global : Spell GlobalItem
global = do
  name ← one (with_line IsItemName)
  equals ← mark 61
  global_of name

-- %N = type T
abbrev pub type_def : Spell TypeDef
type_def = do
  name ← one (with_line IsLocal)
  equals ← mark 61
  w ← word (codes "type")
  body ← type_
  done (record { name = name.0; body = body; line = name.1 })

-- ---- modules

pub data Item : Type 0 where
  TypeItem : TypeDef → Item
  VariableItem : GlobalItem → Item
  FunctionItem : Function → Item
  LineItem : List ℕ → Item

abbrev pub IsPassiveLine : Lexeme → List ℕ → Type 0
IsPassiveLine t line = (t.kind ≡ Passive) × (t.bytes ≡ line)

abbrev pub item : Spell Item
item ts (TypeItem d) = type_def ts d
item ts (VariableItem g) = global ts g
item ts (FunctionItem f) = definition ts f ⊎ declaration ts f
item ts (LineItem line) = one IsPassiveLine ts line

abbrev pub item_types : Item → List TypeDef
item_types (TypeItem d) = d ∷ []
item_types _ = []

abbrev pub item_globals : Item → List GlobalItem
item_globals (VariableItem g) = g ∷ []
item_globals _ = []

abbrev pub item_functions : Item → List Function
item_functions (FunctionItem f) = f ∷ []
item_functions _ = []

abbrev pub item_lines : Item → List (List ℕ)
item_lines (LineItem line) = line ∷ []
item_lines _ = []

-- $, source_filename and target lines form the prelude, the others the tail
abbrev pub is_prelude_line : List ℕ → Bool
is_prelude_line line = if bytes_eq (take 1 line) (codes "$") then true else if bytes_eq (take 15 line) (codes "source_filename") then true else bytes_eq (take 6 line) (codes "target")

abbrev pub module_of : List Item → Module
module_of items = record {
  prelude = filter is_prelude_line (flat_map item_lines items);
  types = flat_map item_types items;
  globals = flat_map item_globals items;
  functions = flat_map item_functions items;
  tail = filter (λ line. not (is_prelude_line line)) (flat_map item_lines items);
}

-- items to the end of the text
abbrev pub module_to_end : Spell Module
module_to_end = do
  items ← many item
  done (module_of items)

-- the bytes spell the module; no byte behind the limit is looked at
abbrev pub Reads : List ℕ → Module → Type 0
Reads text m = (ts : List Token) × Lexes text ts × module_to_end (lexemes (take text_limit text) ts) m
