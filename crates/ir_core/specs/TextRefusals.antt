-- Which text is refused while it is read, for what, and at which line.
use Rattle.std.specs.Prelude.{◌≡◌, ◌≢◌, ◌≤◌, ◌-◌, ℕ, List, [], ◌∷◌, ◌++◌, length, map, take, drop, codes, ◌⊎◌, Bool, true, not, ◌&&◌}
use Rattle.ir_core.specs.declared.module.Module.{Module}
use Rattle.ir_core.specs.declared.refusal.Construct.{Construct}
use Rattle.ir_core.specs.declared.refusal.Construct.TheVariants.{Syntax, FloatType, VectorType, WideInteger, AddressSpace, UndefValue, AggregateValue, VolatileAccess, InlineAsm, Invoke, MetadataOperand, Limit, ConstantExpression}
use Rattle.ir_core.specs.declared.refusal.Refusal.{Refusal}
use Rattle.ir_core.specs.Numbers.{begins_with, magnitude}
use Rattle.ir_core.specs.Tokens.{Lexeme, Token, Word, Number, Float, Meta, Mark, Past, Lexes, lexemes, line_at, text_limit}
use Rattle.ir_core.specs.EntryPoints.{is_among}
use Rattle.ir_core.specs.Notes.{construct_number}
use Rattle.ir_core.specs.Spell.{IsFirstRefused}
use Rattle.ir_core.specs.Text.{is_digits}
use Rattle.ir_core.specs.Forms.{integer_types}
use Rattle.ir_core.specs.Language.{module_to_end}

-- ---- words that are refused for what they are, wherever they stand

abbrev pub float_words : List (List ℕ)
float_words =
    codes "half" ∷ codes "bfloat" ∷ codes "float" ∷ codes "double" ∷ codes "x86_fp80" ∷ codes "fp128" ∷ codes "ppc_fp128" ∷ codes "fneg" ∷ codes "fadd" ∷ codes "fsub" ∷ codes "fmul" ∷ codes "fdiv"
    ∷ codes "frem" ∷ codes "fcmp" ∷ codes "fptrunc" ∷ codes "fpext" ∷ codes "fptoui" ∷ codes "fptosi" ∷ codes "uitofp" ∷ codes "sitofp" ∷ []

abbrev pub space_words : List (List ℕ)
space_words = codes "addrspace" ∷ codes "addrspacecast" ∷ codes "thread_local" ∷ []

abbrev pub undef_words : List (List ℕ)
undef_words = codes "undef" ∷ codes "poison" ∷ []

abbrev pub aggregate_words : List (List ℕ)
aggregate_words = codes "extractvalue" ∷ codes "insertvalue" ∷ codes "cmpxchg" ∷ codes "byval" ∷ codes "sret" ∷ []

abbrev pub invoke_words : List (List ℕ)
invoke_words = codes "invoke" ∷ codes "callbr" ∷ codes "landingpad" ∷ codes "resume" ∷ []

-- the words that begin an instruction or name its operation in LLVM 16
abbrev pub instruction_words : List (List ℕ)
instruction_words =
    codes "ret" ∷ codes "br" ∷ codes "switch" ∷ codes "indirectbr" ∷ codes "invoke" ∷ codes "callbr" ∷ codes "resume" ∷ codes "catchswitch" ∷ codes "catchret" ∷ codes "cleanupret" ∷ codes "unreachable"
    ∷ codes "fneg" ∷ codes "add" ∷ codes "fadd" ∷ codes "sub" ∷ codes "fsub" ∷ codes "mul" ∷ codes "fmul" ∷ codes "udiv" ∷ codes "sdiv" ∷ codes "fdiv" ∷ codes "urem" ∷ codes "srem" ∷ codes "frem"
    ∷ codes "shl" ∷ codes "lshr" ∷ codes "ashr" ∷ codes "and" ∷ codes "or" ∷ codes "xor" ∷ codes "extractelement" ∷ codes "insertelement" ∷ codes "shufflevector" ∷ codes "extractvalue" ∷ codes "insertvalue"
    ∷ codes "alloca" ∷ codes "load" ∷ codes "store" ∷ codes "fence" ∷ codes "cmpxchg" ∷ codes "atomicrmw" ∷ codes "getelementptr"
    ∷ codes "trunc" ∷ codes "zext" ∷ codes "sext" ∷ codes "fptrunc" ∷ codes "fpext" ∷ codes "fptoui" ∷ codes "fptosi" ∷ codes "uitofp" ∷ codes "sitofp" ∷ codes "ptrtoint" ∷ codes "inttoptr" ∷ codes "bitcast" ∷ codes "addrspacecast"
    ∷ codes "icmp" ∷ codes "fcmp" ∷ codes "phi" ∷ codes "select" ∷ codes "freeze" ∷ codes "call" ∷ codes "tail" ∷ codes "musttail" ∷ codes "notail" ∷ codes "va_arg" ∷ codes "landingpad" ∷ codes "catchpad" ∷ codes "cleanuppad" ∷ []

-- i and digits
abbrev pub names_integer : List ℕ → Bool
names_integer bytes = begins_with 105 bytes && is_digits (drop 1 bytes)

-- ---- what stands at a place, said by what the tokens before it go on with

abbrev pub a_word : List ℕ → Lexeme
a_word bytes = record { kind = Word; bytes = bytes; line = 1 }

-- some text begins with these tokens
abbrev pub Begins : List Lexeme → Type 0
Begins front = (more : List Lexeme) × (m : Module) × module_to_end (front ++ more) m

-- a type can stand next
abbrev pub TypeStands : List Lexeme → Type 0
TypeStands front = Begins (front ++ a_word (codes "ptr") ∷ [])

-- an initializer can stand next
abbrev pub InitStands : List Lexeme → Type 0
InitStands front = Begins (front ++ a_word (codes "zeroinitializer") ∷ [])

-- the value of an operand can stand next
abbrev pub ValueStands : List Lexeme → Type 0
ValueStands front = Begins (front ++ a_word (codes "null") ∷ []) × (InitStands front → ⊥)

-- an operand can stand next, its type and then its value; or its value alone
abbrev pub OperandStands : List Lexeme → Type 0
OperandStands front = ValueStands (front ++ a_word (codes "ptr") ∷ []) ⊎ ValueStands front

abbrev pub a_number : List ℕ → Lexeme
a_number bytes = record { kind = Number; bytes = bytes; line = 1 }

-- the number of an address space can stand next, of which 0 alone is one
abbrev pub SpaceStands : List Lexeme → Type 0
SpaceStands front = Begins (front ++ a_number (codes "0") ∷ []) × (Begins (front ++ a_number (codes "1") ∷ []) → ⊥)

-- ---- what a refused token is refused for

abbrev pub IsWordAmong : List (List ℕ) → Lexeme → Type 0
IsWordAmong words t = (t.kind ≡ Word) × (is_among words t.bytes ≡ true)

-- an integer of a width that there is not
abbrev pub names_wide_integer : List ℕ → Bool
names_wide_integer bytes = names_integer bytes && not (is_among (map (λ e. e.0) integer_types) bytes)

abbrev pub NamesWideInteger : Lexeme → Type 0
NamesWideInteger t = (t.kind ≡ Word) × (names_wide_integer t.bytes ≡ true)

abbrev pub IsOpening : Lexeme → Type 0
IsOpening t = (t.kind ≡ Mark 91) ⊎ (t.kind ≡ Mark 123)

-- the construct fits the refused token, behind the tokens before it; where a type or an initializer can stand, a bracket is
-- refused for its nesting alone
abbrev pub Fits : List Lexeme → Lexeme → Construct → Type 0
Fits front t FloatType = (t.kind ≡ Float) ⊎ IsWordAmong float_words t
Fits front t VectorType = (t.kind ≡ Mark 60) × TypeStands front
Fits front t WideInteger = NamesWideInteger t
Fits front t AddressSpace = IsWordAmong space_words t ⊎ ((t.kind ≡ Number) × (magnitude t.bytes ≢ 0) × SpaceStands front)
Fits front t UndefValue = IsWordAmong undef_words t
Fits front t AggregateValue = IsWordAmong aggregate_words t
Fits front t VolatileAccess = IsWordAmong (codes "volatile" ∷ []) t
Fits front t InlineAsm = IsWordAmong (codes "asm" ∷ []) t
Fits front t Invoke = IsWordAmong invoke_words t
Fits front t MetadataOperand = IsWordAmong (codes "metadata" ∷ []) t ⊎ ((t.kind ≡ Meta) × OperandStands front)
Fits front t Limit = (t.kind ≡ Past) ⊎ (IsOpening t × (TypeStands front ⊎ InitStands front))
Fits front t ConstantExpression = IsWordAmong instruction_words t × ValueStands front
Fits front t _ = ⊥

-- of the constructs that fit the one with the least number, and syntax where none does
abbrev pub IsConstruct : List Lexeme → Lexeme → Construct → Type 0
IsConstruct front t Syntax = (other : Construct) → Fits front t other → ⊥
IsConstruct front t c = Fits front t c × ((other : Construct) → Fits front t other → construct_number c ≤ construct_number other)

-- the line of a text's last byte, or 1
abbrev pub last_line : List ℕ → ℕ
last_line text = line_at text (length text - 1)

-- the refusal at what is left of the tokens of a text, of which the end counts as one
abbrev pub IsRefusalAt : List ℕ → List Lexeme → List Lexeme → Refusal → Type 0
IsRefusalAt text front [] r = (r.construct ≡ Syntax) × (r.line ≡ last_line text)
IsRefusalAt text front (t ∷ rest) r = IsConstruct front t r.construct × (r.line ≡ t.line)

-- the text is refused while it is read: at its first token such that no text of the grammar begins with the tokens up to it and with it
pub record IsTextRefusal (text : List ℕ) (r : Refusal) : Type 0 where
  pub tokens : List Token
  pub lexes : Lexes text tokens
  pub left : ℕ
  pub first : IsFirstRefused module_to_end (lexemes (take text_limit text) tokens) left
  pub told : IsRefusalAt (take text_limit text) first.front first.rest r
