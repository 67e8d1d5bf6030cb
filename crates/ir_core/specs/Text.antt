-- The canonical text of a module.
use Rattle.std.specs.Prelude.{ℕ, ◌+◌, ◌-◌, ◌/◌, ◌%◌, ◌^◌, List, [], ◌∷◌, ◌++◌, codes, decimal, map, Bool, true, false, ◌==◌, nat_lt, if◌then◌else◌, Option, Some, None}
use Rattle.std.specs.List.{flat_map}
use Rattle.ir_core.specs.declared.types.Ty.{Ty, fold-Ty}
use Rattle.ir_core.specs.declared.types.Ty.TheOpen.{Ty-F}
use Rattle.ir_core.specs.declared.types.Ty.TheVariants.{Int as IntTy}
use Rattle.ir_core.specs.declared.instructions.Value.{Value}
use Rattle.ir_core.specs.declared.instructions.Value.TheVariants.{Int as IntValue, Null, Local, Global as GlobalValue}
use Rattle.ir_core.specs.declared.instructions.Typed.{Typed}
use Rattle.ir_core.specs.declared.instructions.Edge.{Edge}
use Rattle.ir_core.specs.declared.instructions.Case.{Case}
use Rattle.ir_core.specs.declared.instructions.BinOp.{BinOp}
use Rattle.ir_core.specs.declared.instructions.BinOp.TheVariants.{Add, Sub, Mul, Shl, UDiv, SDiv, LShr, AShr, URem, SRem, And, Or, Xor}
use Rattle.ir_core.specs.declared.instructions.Flags.{Flags}
use Rattle.ir_core.specs.declared.instructions.Pred.{Pred}
use Rattle.ir_core.specs.declared.instructions.Pred.TheVariants.{Eq, Ne, Ugt, Uge, Ult, Ule, Sgt, Sge, Slt, Sle}
use Rattle.ir_core.specs.declared.instructions.CastOp.{CastOp}
use Rattle.ir_core.specs.declared.instructions.CastOp.TheVariants.{ZExt, SExt, Trunc, IntToPtr, PtrToInt}
use Rattle.ir_core.specs.declared.instructions.RmwOp.{RmwOp}
use Rattle.ir_core.specs.declared.instructions.RmwOp.TheVariants.{Xchg, Add as RmwAdd, Sub as RmwSub, And as RmwAnd, Nand, Or as RmwOr, Xor as RmwXor, Max, Min, UMax, UMin}
use Rattle.ir_core.specs.declared.instructions.Order.{Order}
use Rattle.ir_core.specs.declared.instructions.Order.TheVariants.{Unordered, Monotonic, Acquire, Release, AcqRel, SeqCst}
use Rattle.ir_core.specs.declared.instructions.TailWord.{TailWord}
use Rattle.ir_core.specs.declared.instructions.TailWord.TheVariants.{Absent, Tail, NoTail}
use Rattle.ir_core.specs.declared.instructions.Kind.{Kind}
use Rattle.ir_core.specs.declared.instructions.Kind.TheVariants.{Bin, ICmp, Cast, Select, Phi, Alloca, Load, Store, Rmw, Gep, Fence, Call, Br, CondBr, Switch, Ret, Unreachable}
use Rattle.ir_core.specs.declared.instructions.Inst.{Inst}
use Rattle.ir_core.specs.declared.module.Module.{Module}
use Rattle.ir_core.specs.declared.module.TypeDef.{TypeDef}
use Rattle.ir_core.specs.declared.module.Global.{Global}
use Rattle.ir_core.specs.declared.module.Init.{Init, fold-Init}
use Rattle.ir_core.specs.declared.module.Init.TheOpen.{Init-F, Element-F}
use Rattle.ir_core.specs.declared.module.Function.{Function}
use Rattle.ir_core.specs.declared.module.Param.{Param}
use Rattle.ir_core.specs.declared.module.Block.{Block}
use Rattle.ir_core.specs.Bytes.{Class, Letter, Dash, class_of, word_byte, digit_byte, between, every}

-- ---- spacing

abbrev pub all_led : List ℕ → List (List ℕ) → List ℕ
all_led separator parts = flat_map (λ part. separator ++ part) parts

-- a, b, ..
abbrev pub parted : List ℕ → List (List ℕ) → List ℕ
parted separator [] = []
parted separator (part ∷ parts) = part ++ all_led separator parts

abbrev pub comma_list : List (List ℕ) → List ℕ
comma_list = parted (codes ", ")

-- each with one space behind it
abbrev pub spaced_words : List (List ℕ) → List ℕ
spaced_words = flat_map (λ word. word ++ codes " ")

-- parts with a space on each side, and one space where there are none
abbrev pub in_spaces : List ℕ → List (List ℕ) → List ℕ
in_spaces separator [] = codes " "
in_spaces separator (part ∷ parts) = codes " " ++ parted separator (part ∷ parts) ++ codes " "

-- ---- names

abbrev pub is_digits : List ℕ → Bool
is_digits [] = false
is_digits (c ∷ cs) = every digit_byte (c ∷ cs)

-- digits in any number and, where there is one, an exponent: e or E, a - or none, digits
abbrev pub is_exponent : List ℕ → Bool
is_exponent [] = false
is_exponent (c ∷ cs) = if c == 45 then is_digits cs else is_digits (c ∷ cs)

abbrev pub is_behind_point : List ℕ → Bool
is_behind_point [] = true
is_behind_point (c ∷ cs) = if digit_byte c then is_behind_point cs else if c == 101 then is_exponent cs else if c == 69 then is_exponent cs else false

-- digits, with a point and what may stand behind it
abbrev pub is_numeral_from : Bool → List ℕ → Bool
is_numeral_from some_digit [] = some_digit
is_numeral_from some_digit (c ∷ cs) = if digit_byte c then is_numeral_from true cs else if c == 46 then (if some_digit then is_behind_point cs else false) else false

-- a number or a float literal, behind its -
abbrev pub is_numeral : List ℕ → Bool
is_numeral = is_numeral_from false

abbrev pub is_word_from : Class → List ℕ → Bool
is_word_from Letter cs = every word_byte cs
is_word_from Dash cs = if is_numeral cs then false else every word_byte cs
is_word_from _ cs = false

-- letters, digits, $ . _ -, not beginning with a digit, and neither a number nor a float literal
abbrev pub is_word : List ℕ → Bool
is_word [] = false
is_word (c ∷ cs) = is_word_from (class_of c) cs

abbrev pub hex_digit : ℕ → ℕ
hex_digit n = if nat_lt n 10 then 48 + n else 55 + n

-- other bytes than 32 to 126, and " and \, are \HH
abbrev pub is_plain_byte : ℕ → Bool
is_plain_byte c = if c == 34 then false else if c == 92 then false else between 32 126 c

abbrev pub escaped : ℕ → List ℕ
escaped c = if is_plain_byte c then c ∷ [] else 92 ∷ hex_digit (c / 16) ∷ hex_digit (c % 16) ∷ []

abbrev pub quoted : List ℕ → List ℕ
quoted x = codes "\"" ++ flat_map escaped x ++ codes "\""

-- a name that isn't a word is quoted
abbrev pub name_text : List ℕ → List ℕ
name_text x = if is_word x then x else quoted x

abbrev pub local_text : List ℕ → List ℕ
local_text x = codes "%" ++ name_text x

abbrev pub global_name_text : List ℕ → List ℕ
global_name_text x = codes "@" ++ name_text x

-- ---- types

abbrev pub type_layer : Ty-F (List ℕ) → List ℕ
type_layer Ty-F.Void = codes "void"
type_layer (Ty-F.Int width) = codes "i" ++ decimal width
type_layer Ty-F.Ptr = codes "ptr"
type_layer (Ty-F.Array n item) = codes "[" ++ decimal n ++ codes " x " ++ item ++ codes "]"
type_layer (Ty-F.Struct fields) = codes "{" ++ in_spaces (codes ", ") fields ++ codes "}"
type_layer (Ty-F.Named x) = local_text x

abbrev pub type_text : Ty → List ℕ
type_text = fold-Ty (List ℕ) type_layer

-- ---- operands

-- a number that is of its type is a signed decimal, and for i1 it is true or false; every other number is an unsigned decimal
abbrev pub signed_text : ℕ → ℕ → List ℕ
signed_text width n = if nat_lt n (2 ^ (width - 1)) then decimal n else codes "-" ++ decimal (2 ^ width - n)

abbrev pub truth_text : ℕ → List ℕ
truth_text n = if n == 0 then codes "false" else codes "true"

abbrev pub integer_text : ℕ → ℕ → List ℕ
integer_text width n = if nat_lt n (2 ^ width) then (if width == 1 then truth_text n else signed_text width n) else decimal n

abbrev pub number_text : Ty → ℕ → List ℕ
number_text (IntTy width) n = integer_text width n
number_text _ n = decimal n

abbrev pub value_text : Ty → Value → List ℕ
value_text ty (IntValue n) = number_text ty n
value_text ty Null = codes "null"
value_text ty (Local x) = local_text x
value_text ty (GlobalValue x) = global_name_text x

abbrev pub typed_text : Typed → List ℕ
typed_text v = type_text v.ty ++ codes " " ++ value_text v.ty v.value

abbrev pub typed_texts : List Typed → List (List ℕ)
typed_texts = map typed_text

abbrev pub target_text : List ℕ → List ℕ
target_text b = codes "label " ++ local_text b

-- ---- instructions

abbrev pub bin_op_text : BinOp → List ℕ
bin_op_text Add = codes "add"
bin_op_text Sub = codes "sub"
bin_op_text Mul = codes "mul"
bin_op_text Shl = codes "shl"
bin_op_text UDiv = codes "udiv"
bin_op_text SDiv = codes "sdiv"
bin_op_text LShr = codes "lshr"
bin_op_text AShr = codes "ashr"
bin_op_text URem = codes "urem"
bin_op_text SRem = codes "srem"
bin_op_text And = codes "and"
bin_op_text Or = codes "or"
bin_op_text Xor = codes "xor"

abbrev pub pred_text : Pred → List ℕ
pred_text Eq = codes "eq"
pred_text Ne = codes "ne"
pred_text Ugt = codes "ugt"
pred_text Uge = codes "uge"
pred_text Ult = codes "ult"
pred_text Ule = codes "ule"
pred_text Sgt = codes "sgt"
pred_text Sge = codes "sge"
pred_text Slt = codes "slt"
pred_text Sle = codes "sle"

abbrev pub cast_text : CastOp → List ℕ
cast_text ZExt = codes "zext"
cast_text SExt = codes "sext"
cast_text Trunc = codes "trunc"
cast_text IntToPtr = codes "inttoptr"
cast_text PtrToInt = codes "ptrtoint"

abbrev pub rmw_text : RmwOp → List ℕ
rmw_text Xchg = codes "xchg"
rmw_text RmwAdd = codes "add"
rmw_text RmwSub = codes "sub"
rmw_text RmwAnd = codes "and"
rmw_text Nand = codes "nand"
rmw_text RmwOr = codes "or"
rmw_text RmwXor = codes "xor"
rmw_text Max = codes "max"
rmw_text Min = codes "min"
rmw_text UMax = codes "umax"
rmw_text UMin = codes "umin"

abbrev pub order_text : Order → List ℕ
order_text Unordered = codes "unordered"
order_text Monotonic = codes "monotonic"
order_text Acquire = codes "acquire"
order_text Release = codes "release"
order_text AcqRel = codes "acq_rel"
order_text SeqCst = codes "seq_cst"

abbrev pub word_if : Bool → List ℕ → List ℕ
word_if given word = if given then word else []

abbrev pub flags_text : Flags → List ℕ
flags_text f = word_if f.nuw (codes " nuw") ++ word_if f.nsw (codes " nsw") ++ word_if f.exact (codes " exact")

abbrev pub align_text : ℕ → List ℕ
align_text n = if n == 0 then [] else codes ", align " ++ decimal n

abbrev pub atomic_text : Option Order → List ℕ
atomic_text None = codes " "
atomic_text (Some order) = codes " atomic "

abbrev pub ordering_text : Option Order → List ℕ
ordering_text None = []
ordering_text (Some order) = codes " " ++ order_text order

abbrev pub tail_text : TailWord → List ℕ
tail_text Absent = []
tail_text Tail = codes "tail "
tail_text NoTail = codes "notail "

abbrev pub edge_text : Ty → Edge → List ℕ
edge_text ty e = codes "[ " ++ value_text ty e.value ++ codes ", " ++ local_text e.block ++ codes " ]"

abbrev pub case_text : Case → List ℕ
case_text c = typed_text c.value ++ codes ", " ++ target_text c.block

abbrev pub returned_text : Option Typed → List ℕ
returned_text None = codes "void"
returned_text (Some v) = typed_text v

abbrev pub kind_text : Kind → List ℕ
kind_text (Bin op flags ty a b) = bin_op_text op ++ flags_text flags ++ codes " " ++ type_text ty ++ codes " " ++ value_text ty a ++ codes ", " ++ value_text ty b
kind_text (ICmp pred ty a b) = codes "icmp " ++ pred_text pred ++ codes " " ++ type_text ty ++ codes " " ++ value_text ty a ++ codes ", " ++ value_text ty b
kind_text (Cast op from to) = cast_text op ++ codes " " ++ typed_text from ++ codes " to " ++ type_text to
kind_text (Select cond a b) = codes "select " ++ typed_text cond ++ codes ", " ++ typed_text a ++ codes ", " ++ typed_text b
kind_text (Phi ty edges) = codes "phi " ++ type_text ty ++ codes " " ++ comma_list (map (edge_text ty) edges)
kind_text (Alloca ty align) = codes "alloca " ++ type_text ty ++ align_text align
kind_text (Load ty at order align) = codes "load" ++ atomic_text order ++ type_text ty ++ codes ", " ++ typed_text at ++ ordering_text order ++ align_text align
kind_text (Store value at order align) = codes "store" ++ atomic_text order ++ typed_text value ++ codes ", " ++ typed_text at ++ ordering_text order ++ align_text align
kind_text (Rmw op at value order align) = codes "atomicrmw " ++ rmw_text op ++ codes " " ++ typed_text at ++ codes ", " ++ typed_text value ++ codes " " ++ order_text order ++ align_text align
kind_text (Gep inbounds ty base path) = codes "getelementptr " ++ word_if inbounds (codes "inbounds ") ++ type_text ty ++ codes ", " ++ typed_text base ++ all_led (codes ", ") (typed_texts path)
kind_text (Fence order) = codes "fence " ++ order_text order
kind_text (Call tail_word ret callee args) = tail_text tail_word ++ codes "call " ++ type_text ret ++ codes " " ++ value_text ret callee ++ codes "(" ++ comma_list (typed_texts args) ++ codes ")"
kind_text (Br to) = codes "br " ++ target_text to
kind_text (CondBr cond then_to else_to) = codes "br " ++ typed_text cond ++ codes ", " ++ target_text then_to ++ codes ", " ++ target_text else_to
kind_text (Switch on other cases) = codes "switch " ++ typed_text on ++ codes ", " ++ target_text other ++ codes " [" ++ in_spaces (codes " ") (map case_text cases) ++ codes "]"
kind_text (Ret value) = codes "ret " ++ returned_text value
kind_text Unreachable = codes "unreachable"

abbrev pub result_text : Option (List ℕ) → List ℕ
result_text None = []
result_text (Some x) = local_text x ++ codes " = "

abbrev pub inst_text : Inst → List ℕ
inst_text i = codes "  " ++ result_text i.result ++ kind_text i.kind ++ codes "\n"

-- ---- functions

abbrev pub block_text : Block → List ℕ
block_text b = name_text b.name ++ codes ":\n" ++ flat_map inst_text b.insts

abbrev pub param_text : Param → List ℕ
param_text p = type_text p.ty ++ codes " " ++ local_text p.name

abbrev pub param_type_text : Param → List ℕ
param_type_text p = type_text p.ty

-- the words, the result's type, the name, and the texts of the parameters
abbrev pub heading_text : Function → List (List ℕ) → List ℕ
heading_text f params = spaced_words f.words ++ type_text f.ret ++ codes " " ++ global_name_text f.name ++ codes "(" ++ comma_list params ++ codes ")" ++ all_led (codes " ") f.groups

-- a function without blocks is a declaration
abbrev pub body_text : Function → List Block → List ℕ
body_text f [] = codes "declare " ++ heading_text f (map param_type_text f.params) ++ codes "\n"
body_text f (b ∷ bs) = codes "define " ++ heading_text f (map param_text f.params) ++ codes " {\n" ++ flat_map block_text (b ∷ bs) ++ codes "}\n"

abbrev pub function_text : Function → List ℕ
function_text f = body_text f f.blocks

-- ---- modules

abbrev pub line_text : List ℕ → List ℕ
line_text line = line ++ codes "\n"

abbrev pub type_def_text : TypeDef → List ℕ
type_def_text t = local_text t.name ++ codes " = type " ++ type_text t.body ++ codes "\n"

-- the text of an initializer of a type, and of an element with its type
abbrev pub init_layer : Init-F (Ty → List ℕ) (List ℕ) → Ty → List ℕ
init_layer Init-F.Zero ty = codes "zeroinitializer"
init_layer (Init-F.Int n) ty = number_text ty n
init_layer Init-F.Null ty = codes "null"
init_layer (Init-F.Addr x) ty = global_name_text x
init_layer (Init-F.Bytes bytes) ty = codes "c" ++ quoted bytes
init_layer (Init-F.Square elements) ty = codes "[" ++ in_spaces (codes ", ") elements ++ codes "]"
init_layer (Init-F.Braces elements) ty = codes "{" ++ in_spaces (codes ", ") elements ++ codes "}"

abbrev pub element_layer : Element-F (Ty → List ℕ) (List ℕ) → List ℕ
element_layer e = type_text e.ty ++ codes " " ++ e.init e.ty

abbrev pub init_text : Ty → Init → List ℕ
init_text ty init = fold-Init (Ty → List ℕ) (List ℕ) init_layer element_layer init ty

abbrev pub initial_text : Ty → Option Init → List ℕ
initial_text ty None = []
initial_text ty (Some init) = codes " " ++ init_text ty init

abbrev pub constness_text : Bool → List ℕ
constness_text constant = if constant then codes "constant" else codes "global"

abbrev pub global_text : Global → List ℕ
global_text g = global_name_text g.name ++ codes " = " ++ spaced_words g.words ++ constness_text g.constant ++ codes " " ++ type_text g.ty ++ initial_text g.ty g.init ++ align_text g.align ++ codes "\n"

-- prelude lines, types, globals, functions in their order, and tail lines
abbrev pub Text : Module → List ℕ
Text m = flat_map line_text m.prelude ++ flat_map type_def_text m.types ++ flat_map global_text m.globals ++ flat_map function_text m.functions ++ flat_map line_text m.tail
