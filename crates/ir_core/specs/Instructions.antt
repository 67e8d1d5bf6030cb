-- Instructions and blocks: which tokens spell which (LLVM Language Reference, "Instruction Reference").
use Rattle.std.specs.Prelude.{if◌then◌else◌, ◌≡◌, ℕ, List, [], ◌∷◌, ◌++◌, take, codes, ◌⊎◌, Bool, true, false, not}
use Rattle.std.specs.Prelude.{Some as Present, None as Absent, Option}
use Rattle.std.specs.List.{filter}
use Rattle.std.specs.Str.{bytes_eq}
use Rattle.ir_core.specs.declared.types.Ty.{Ty}
use Rattle.ir_core.specs.declared.instructions.Value.{Value}
use Rattle.ir_core.specs.declared.instructions.Value.TheVariants.{Local as Register, Global as GlobalValue}
use Rattle.ir_core.specs.declared.instructions.Typed.{Typed}
use Rattle.ir_core.specs.declared.instructions.Edge.{Edge}
use Rattle.ir_core.specs.declared.instructions.Case.{Case}
use Rattle.ir_core.specs.declared.instructions.BinOp.{BinOp}
use Rattle.ir_core.specs.declared.instructions.BinOp.TheVariants.{Add, Sub, Mul, Shl, UDiv, SDiv, LShr, AShr, URem, SRem, And, Or, Xor}
use Rattle.ir_core.specs.declared.instructions.Flags.{Flags}
use Rattle.ir_core.specs.declared.instructions.Pred.{Pred}
use Rattle.ir_core.specs.declared.instructions.Pred.TheVariants.{Eq, Ne, Ugt, Uge, Ult, Ule, Sgt, Sge, Slt, Sle}
use Rattle.ir_core.specs.declared.instructions.CastOp.{CastOp}
use Rattle.ir_core.specs.declared.instructions.CastOp.TheVariants.{ZExt, SExt, Trunc, IntToPtr, PtrToInt}
use Rattle.ir_core.specs.declared.instructions.RmwOp.{RmwOp}
use Rattle.ir_core.specs.declared.instructions.RmwOp.TheVariants.{Xchg, Add as RmwAdd, Sub as RmwSub, And as RmwAnd, Nand, Or as RmwOr, Xor as RmwXor, Max, Min, UMax, UMin}
use Rattle.ir_core.specs.declared.instructions.Order.{Order}
use Rattle.ir_core.specs.declared.instructions.Order.TheVariants.{Unordered, Monotonic, Acquire, Release, AcqRel, SeqCst}
use Rattle.ir_core.specs.declared.instructions.TailWord.{TailWord}
use Rattle.ir_core.specs.declared.instructions.TailWord.TheVariants.{Absent as NoTailWord, Tail, NoTail}
use Rattle.ir_core.specs.declared.instructions.Kind.{Kind}
use Rattle.ir_core.specs.declared.instructions.Kind.TheVariants.{Bin, ICmp, Cast, Select, Phi, Alloca, Load, Store, Rmw, Gep, Fence, Call, Br, CondBr, Switch, Ret, Unreachable}
use Rattle.ir_core.specs.declared.instructions.Inst.{Inst}
use Rattle.ir_core.specs.declared.module.Block.{Block}
use Rattle.ir_core.specs.Tokens.{Lexeme, Text, Group, Meta}
use Rattle.ir_core.specs.Spell.{◌>>=◌, Spell, done, one, any, many, IsWordIn, word, mark, with_line, list_to}
use Rattle.ir_core.specs.Forms.{maybe, dropped, token, IsLocal, IsGlobal, IsLabel, alignment, type_, result_type, IsOneOf, attributes, IsValue, typed, next, target}

-- ---- what stands behind an instruction

-- , align A
abbrev pub next_alignment : Spell ℕ
next_alignment = maybe 0 (next alignment)

abbrev pub IsMetaName : Lexeme → Type 0
IsMetaName t = (t.kind ≡ Meta) × (bytes_eq t.bytes (codes "!{") ≡ false)

-- !N !n
abbrev pub attachment : Spell (Unit {0})
attachment = do
  name ← token IsMetaName
  token IsMetaName

abbrev pub attachments : Spell (Unit {0})
attachments = dropped (next attachment)

-- ---- instructions with a value

abbrev pub no_flags : Flags
no_flags = record { nsw = false; nuw = false; exact = false }

-- a word, where it stands
abbrev pub flag : List ℕ → Spell Bool
flag w = maybe false (do
  line ← word w
  done true)

-- nuw nsw, in this order
abbrev pub wrap_flags : Spell Flags
wrap_flags = do
  nuw ← flag (codes "nuw")
  nsw ← flag (codes "nsw")
  done (record { nsw = nsw; nuw = nuw; exact = false })

abbrev pub exact_flag : Spell Flags
exact_flag = do
  exact ← flag (codes "exact")
  done (record { nsw = false; nuw = false; exact = exact })

abbrev pub binary : BinOp → Spell Flags → Spell Kind
binary op flags_of = do
  flags ← flags_of
  ty ← type_
  a ← one (IsValue ty)
  b ← next (one (IsValue ty))
  done (Bin op flags ty a b)

abbrev pub predicates : List (List ℕ × Pred)
predicates =
    (codes "eq", Eq) ∷ (codes "ne", Ne) ∷ (codes "ugt", Ugt) ∷ (codes "uge", Uge) ∷ (codes "ult", Ult) ∷ (codes "ule", Ule) ∷ (codes "sgt", Sgt) ∷ (codes "sge", Sge) ∷ (codes "slt", Slt) ∷ (codes "sle", Sle) ∷ []

abbrev pub orders : List (List ℕ × Order)
orders =
    (codes "unordered", Unordered) ∷ (codes "monotonic", Monotonic) ∷ (codes "acquire", Acquire) ∷ (codes "release", Release) ∷ (codes "acq_rel", AcqRel) ∷ (codes "seq_cst", SeqCst) ∷ []

abbrev pub IsText : Lexeme → Type 0
IsText t = t.kind ≡ Text

-- syncscope(".."), which is dropped
abbrev pub scope : Spell (Unit {0})
scope = do
  name ← word (codes "syncscope")
  open_ ← mark 40
  text ← token IsText
  close ← mark 41
  done tt

abbrev pub order : Spell Order
order = do
  before ← maybe tt scope
  one (IsWordIn orders)

abbrev pub some_order : Spell (Option Order)
some_order = do
  o ← order
  done (Present o)

-- the order of an access that says atomic, and none of another
abbrev pub order_if : Bool → Spell (Option Order)
order_if true = some_order
order_if false = done Absent

abbrev pub edge : Ty → Spell Edge
edge ty = do
  open_ ← mark 91
  value ← one (IsValue ty)
  block ← next (one IsLocal)
  close ← mark 93
  done (record { value = value; block = block })

abbrev pub changes : List (List ℕ × RmwOp)
changes =
    (codes "xchg", Xchg) ∷ (codes "add", RmwAdd) ∷ (codes "sub", RmwSub) ∷ (codes "and", RmwAnd) ∷ (codes "nand", Nand) ∷ (codes "or", RmwOr) ∷ (codes "xor", RmwXor) ∷ (codes "max", Max) ∷ (codes "min", Min)
    ∷ (codes "umax", UMax) ∷ (codes "umin", UMin) ∷ []

-- what can stand behind %x =, but for calls
pub data ValueForm : Type 0 where
  Wraps : BinOp → ValueForm
  Divides : BinOp → ValueForm
  Mixes : BinOp → ValueForm
  Compares : ValueForm
  Casts : CastOp → ValueForm
  Selects : ValueForm
  Phis : ValueForm
  Allocas : ValueForm
  Loads : ValueForm
  Changes : ValueForm
  Steps : ValueForm

abbrev pub value_words : List (List ℕ × ValueForm)
value_words =
    (codes "add", Wraps Add) ∷ (codes "sub", Wraps Sub) ∷ (codes "mul", Wraps Mul) ∷ (codes "shl", Wraps Shl)
    ∷ (codes "udiv", Divides UDiv) ∷ (codes "sdiv", Divides SDiv) ∷ (codes "lshr", Divides LShr) ∷ (codes "ashr", Divides AShr)
    ∷ (codes "urem", Mixes URem) ∷ (codes "srem", Mixes SRem) ∷ (codes "and", Mixes And) ∷ (codes "or", Mixes Or) ∷ (codes "xor", Mixes Xor)
    ∷ (codes "icmp", Compares)
    ∷ (codes "zext", Casts ZExt) ∷ (codes "sext", Casts SExt) ∷ (codes "trunc", Casts Trunc) ∷ (codes "inttoptr", Casts IntToPtr) ∷ (codes "ptrtoint", Casts PtrToInt)
    ∷ (codes "select", Selects) ∷ (codes "phi", Phis) ∷ (codes "alloca", Allocas) ∷ (codes "load", Loads) ∷ (codes "atomicrmw", Changes) ∷ (codes "getelementptr", Steps) ∷ []

abbrev pub value_form : ValueForm → Spell Kind
value_form (Wraps op) = binary op wrap_flags
value_form (Divides op) = binary op exact_flag
value_form (Mixes op) = binary op (done no_flags)
value_form Compares = do
  pred ← one (IsWordIn predicates)
  ty ← type_
  a ← one (IsValue ty)
  b ← next (one (IsValue ty))
  done (ICmp pred ty a b)
value_form (Casts op) = do
  from ← typed
  to_word ← word (codes "to")
  to ← type_
  done (Cast op from to)
value_form Selects = do
  c ← typed
  a ← next typed
  b ← next typed
  done (Select c a b)
value_form Phis = do
  ty ← type_
  first ← edge ty
  edges ← many (next (edge ty))
  done (Phi ty (first ∷ edges))
value_form Allocas = do
  ty ← type_
  align ← next_alignment
  done (Alloca ty align)
value_form Loads = do
  atomic ← flag (codes "atomic")
  ty ← type_
  at ← next typed
  ordering ← order_if atomic
  align ← next_alignment
  done (Load ty at ordering align)
value_form Changes = do
  op ← one (IsWordIn changes)
  at ← typed
  value ← next typed
  ordering ← order
  align ← next_alignment
  done (Rmw op at value ordering align)
value_form Steps = do
  inbounds ← flag (codes "inbounds")
  ty ← type_
  base ← next typed
  first ← next typed
  path ← many (next typed)
  done (Gep inbounds ty base (first ∷ path))

abbrev pub value : Spell Kind
value = do
  form ← one (IsWordIn value_words)
  value_form form

-- ---- calls

-- attributes stand before the type and before the operand
abbrev pub argument : Spell Typed
argument = do
  before ← attributes
  ty ← type_
  behind ← attributes
  value ← one (IsValue ty)
  done (record { ty = ty; value = value })

abbrev pub IsCallee : Lexeme → Value → Type 0
IsCallee t (GlobalValue x) = IsGlobal t x
IsCallee t (Register x) = IsLocal t x
IsCallee t _ = ⊥

abbrev pub conventions : List (List ℕ)
conventions = codes "ccc" ∷ codes "fastcc" ∷ codes "coldcc" ∷ []

abbrev pub plain_function_words : List (List ℕ)
plain_function_words =
    codes "nounwind" ∷ codes "alwaysinline" ∷ codes "noinline" ∷ codes "convergent" ∷ codes "norecurse" ∷ codes "optnone" ∷ codes "willreturn" ∷ codes "mustprogress" ∷ codes "nofree" ∷ codes "nosync"
    ∷ codes "local_unnamed_addr" ∷ codes "unnamed_addr" ∷ []

abbrev pub IsGroup : Lexeme → Type 0
IsGroup t = t.kind ≡ Group

pub data TrailerForm : Type 0 where
  GroupTrailer : TrailerForm
  WordTrailer : TrailerForm

abbrev pub trailer_form : TrailerForm → Spell (Unit {0})
trailer_form GroupTrailer = token IsGroup
trailer_form WordTrailer = token (IsOneOf plain_function_words)

-- T @N(V, ..), behind the word call
abbrev pub called : TailWord → Spell Kind
called tail_word = do
  convention ← maybe tt (token (IsOneOf conventions))
  before ← attributes
  ret ← result_type
  callee ← one IsCallee
  open_ ← mark 40
  operands ← list_to 41 argument
  behind ← dropped (any trailer_form)
  done (Call tail_word ret callee operands)

abbrev pub tail_words : List (List ℕ × TailWord)
tail_words = (codes "tail", Tail) ∷ (codes "notail", NoTail) ∷ []

pub data CallForm : Type 0 where
  Bare : CallForm
  Led : CallForm

abbrev pub call_form : CallForm → Spell Kind
call_form Bare = do
  line ← word (codes "call")
  called NoTailWord
call_form Led = do
  tail_word ← one (IsWordIn tail_words)
  line ← word (codes "call")
  called tail_word

abbrev pub call : Spell Kind
call = any call_form

-- ---- instructions that end no block

abbrev pub stored : Spell Kind
stored = do
  atomic ← flag (codes "atomic")
  value ← typed
  at ← next typed
  ordering ← order_if atomic
  align ← next_alignment
  done (Store value at ordering align)

abbrev pub fenced : Spell Kind
fenced = do
  o ← order
  done (Fence o)

abbrev pub at_line : Option (List ℕ) → ℕ → Kind → Inst
at_line x line kind = record { result = x; kind = kind; line = line }

pub data PlainForm : Type 0 where
  Assigns : PlainForm
  Stores : PlainForm
  Fences : PlainForm
  Calls : PlainForm
  TailCalls : PlainForm

abbrev pub assigned : Spell Kind
assigned ts kind = value ts kind ⊎ call ts kind

abbrev pub plain_form : PlainForm → Spell Inst
plain_form Assigns = do
  x ← one (with_line IsLocal)
  equals ← mark 61
  kind ← assigned
  done (at_line (Present x.0) x.1 kind)
plain_form Stores = do
  line ← word (codes "store")
  kind ← stored
  done (at_line Absent line kind)
plain_form Fences = do
  line ← word (codes "fence")
  kind ← fenced
  done (at_line Absent line kind)
plain_form Calls = do
  line ← word (codes "call")
  kind ← called NoTailWord
  done (at_line Absent line kind)
plain_form TailCalls = do
  tail_word ← one (with_line (IsWordIn tail_words))
  call_word ← word (codes "call")
  kind ← called tail_word.0
  done (at_line Absent tail_word.1 kind)

abbrev pub plain : Spell Inst
plain = do
  inst ← any plain_form
  behind ← attachments
  done inst

-- ---- instructions that end a block

abbrev pub case : Spell Case
case = do
  value ← typed
  block ← next target
  done (record { value = value; block = block })

pub data BranchForm : Type 0 where
  Straight : BranchForm
  Tested : BranchForm

abbrev pub branch_form : BranchForm → Spell Kind
branch_form Straight = do
  to ← target
  done (Br to)
branch_form Tested = do
  c ← typed
  then_to ← next target
  else_to ← next target
  done (CondBr c then_to else_to)

abbrev pub switched : Spell Kind
switched = do
  on ← typed
  other ← next target
  open_ ← mark 91
  cases ← many case
  close ← mark 93
  done (Switch on other cases)

abbrev pub returned : Spell Kind
returned ts kind = (do
  nothing ← word (codes "void")
  done (Ret Absent)) ts kind ⊎ (do
    v ← typed
    done (Ret (Present v))) ts kind

pub data LastForm : Type 0 where
  Branches : LastForm
  Switches : LastForm
  Returns : LastForm
  Stops : LastForm

abbrev pub last_words : List (List ℕ × LastForm)
last_words = (codes "br", Branches) ∷ (codes "switch", Switches) ∷ (codes "ret", Returns) ∷ (codes "unreachable", Stops) ∷ []

abbrev pub last_form : LastForm → Spell Kind
last_form Branches = any branch_form
last_form Switches = switched
last_form Returns = returned
last_form Stops = done Unreachable

abbrev pub last : Spell Inst
last = do
  form ← one (with_line (IsWordIn last_words))
  kind ← last_form form.0
  behind ← attachments
  done (at_line Absent form.1 kind)

-- ---- blocks

-- calls of llvm.lifetime.* and llvm.assume are dropped
abbrev pub is_dropped_name : List ℕ → Bool
is_dropped_name x = if bytes_eq x (codes "llvm.assume") then true else bytes_eq (take 14 x) (codes "llvm.lifetime.")

abbrev pub is_dropped_callee : Value → Bool
is_dropped_callee (GlobalValue x) = is_dropped_name x
is_dropped_callee _ = false

abbrev pub is_dropped_kind : Kind → Bool
is_dropped_kind (Call tail_word ret callee operands) = is_dropped_callee callee
is_dropped_kind _ = false

abbrev pub is_kept : Inst → Bool
is_kept i = not (is_dropped_kind i.kind)

abbrev pub body_of : List ℕ × ℕ → Spell Block
body_of label = do
  insts ← many plain
  end ← last
  done (record { name = label.0; insts = filter is_kept insts ++ end ∷ []; line = label.1 })

abbrev pub block : Spell Block
block = do
  label ← one (with_line IsLabel)
  body_of label
