-- Reading instructions and blocks from left to right, in the same steps as the grammar.
use Rattle.std.specs.Prelude.{ℕ, List, [], ◌∷◌, ◌++◌, codes, Bool, true, false, not, drop, if◌then◌else◌}
use Rattle.std.specs.Prelude.{Option, Some as Present, None as Absent}
use Rattle.std.specs.List.{filter}
use Rattle.ir_core.specs.declared.types.Ty.{Ty}
use Rattle.ir_core.specs.declared.instructions.Value.{Value}
use Rattle.ir_core.specs.declared.instructions.Value.TheVariants.{Local as Register, Global as GlobalValue}
use Rattle.ir_core.specs.declared.instructions.Typed.{Typed}
use Rattle.ir_core.specs.declared.instructions.Edge.{Edge}
use Rattle.ir_core.specs.declared.instructions.Case.{Case}
use Rattle.ir_core.specs.declared.instructions.BinOp.{BinOp}
use Rattle.ir_core.specs.declared.instructions.Flags.{Flags}
use Rattle.ir_core.specs.declared.instructions.CastOp.{CastOp}
use Rattle.ir_core.specs.declared.instructions.Order.{Order}
use Rattle.ir_core.specs.declared.instructions.TailWord.{TailWord}
use Rattle.ir_core.specs.declared.instructions.TailWord.TheVariants.{Absent as NoTailWord}
use Rattle.ir_core.specs.declared.instructions.Kind.{Kind}
use Rattle.ir_core.specs.declared.instructions.Kind.TheVariants.{Bin, ICmp, Cast, Select, Phi, Alloca, Load, Store, Rmw, Gep, Fence, Call, Br, CondBr, Switch, Ret, Unreachable}
use Rattle.ir_core.specs.declared.instructions.Inst.{Inst}
use Rattle.ir_core.specs.declared.module.Block.{Block}
use Rattle.ir_core.specs.Tokens.{Lexeme, TokenKind, Local, Global}
use Rattle.ir_core.specs.Escapes.{stem_name}
use Rattle.ir_core.specs.Instructions.{no_flags, predicates, orders, changes, ValueForm, Wraps, Divides, Mixes, Compares, Casts, Selects, Phis, Allocas, Loads, Changes, Steps, value_words, conventions, tail_words, CallForm, Bare, Led, at_line, PlainForm, Assigns, Stores, Fences, Calls, TailCalls, LastForm, Branches, Switches, Returns, Stops, last_words, is_kept}
use Rattle.read_forms.specs.Read.{Read, ◌>>=◌, then_read, done, one_at, pick, goes, many_at, maybe_at, either_at, list_at, after_comma_at, as_local, as_label, as_mark, as_word, as_table, as_one_of, all_for, form_in, at_word, with_line_of, is_local, is_label, is_mark}
use Rattle.read_forms.specs.Operands.{as_value}
use Rattle.read_forms.specs.Forms.{type_at, result_type_at, attributes_at, typed_at, target_at}
use Rattle.read_ends.specs.Ends.{as_text, attachments_at, tail_at, call_end_at}
use Rattle.read_body.specs.Rows.{rows_after}

-- ---- flags and orders

unfoldable pub true_at : List ℕ → Read Bool
true_at w = do
  line ← one_at (as_word w)
  done true

unfoldable pub flag_at : List ℕ → Read Bool
flag_at w = maybe_at false (at_word w) (true_at w)

unfoldable pub wrap_flags_at : Read Flags
wrap_flags_at = do
  nuw ← flag_at (codes "nuw")
  nsw ← flag_at (codes "nsw")
  done (record { nsw = nsw; nuw = nuw; exact = false })

unfoldable pub exact_flag_at : Read Flags
exact_flag_at = do
  exact ← flag_at (codes "exact")
  done (record { nsw = false; nuw = false; exact = exact })

unfoldable pub scope_at : Read (Unit {0})
scope_at = do
  name ← one_at (as_word (codes "syncscope"))
  open_ ← one_at (as_mark 40)
  text ← one_at as_text
  close ← one_at (as_mark 41)
  done tt

unfoldable pub order_at : Read Order
order_at = do
  before ← maybe_at tt (at_word (codes "syncscope")) scope_at
  one_at (as_table orders)

unfoldable pub some_order_at : Read (Option Order)
some_order_at = do
  o ← order_at
  done (Present o)

abbrev pub order_if_at : Bool → Read (Option Order)
order_if_at true = some_order_at
order_if_at false = done Absent

-- ---- instructions with a value

-- the flags of a binary operation
pub data FlagForm : Type 0 where
  WrapFlags : FlagForm
  ExactFlag : FlagForm
  NoFlags : FlagForm

abbrev pub flags_at : FlagForm → Read Flags
flags_at WrapFlags = wrap_flags_at
flags_at ExactFlag = exact_flag_at
flags_at NoFlags = done no_flags

unfoldable pub binary_at : BinOp → FlagForm → Read Kind
binary_at op form = do
  flags ← flags_at form
  ty ← type_at
  a ← one_at (as_value ty)
  b ← after_comma_at (one_at (as_value ty))
  behind ← attachments_at
  done (Bin op flags ty a b)

unfoldable pub compare_at : Read Kind
compare_at = do
  pred ← one_at (as_table predicates)
  ty ← type_at
  a ← one_at (as_value ty)
  b ← after_comma_at (one_at (as_value ty))
  behind ← attachments_at
  done (ICmp pred ty a b)

unfoldable pub cast_at : CastOp → Read Kind
cast_at op = do
  from ← typed_at
  to_word ← one_at (as_word (codes "to"))
  to ← type_at
  behind ← attachments_at
  done (Cast op from to)

unfoldable pub select_at : Read Kind
select_at = do
  c ← typed_at
  a ← after_comma_at typed_at
  b ← after_comma_at typed_at
  behind ← attachments_at
  done (Select c a b)

unfoldable pub edge_at : Ty → Read Edge
edge_at ty = do
  open_ ← one_at (as_mark 91)
  value ← one_at (as_value ty)
  block ← after_comma_at (one_at as_local)
  close ← one_at (as_mark 93)
  done (record { value = value; block = block })

unfoldable pub phi_at : Read Kind
phi_at = do
  ty ← type_at
  first ← edge_at ty
  edges ← rows_after (edge_at ty) (first ∷ [])
  done (Phi ty edges)

unfoldable pub alloca_at : Read Kind
alloca_at = do
  ty ← type_at
  align ← tail_at
  done (Alloca ty align)

unfoldable pub load_at : Read Kind
load_at = do
  atomic ← flag_at (codes "atomic")
  ty ← type_at
  at ← after_comma_at typed_at
  ordering ← order_if_at atomic
  align ← tail_at
  done (Load ty at ordering align)

unfoldable pub change_at : Read Kind
change_at = do
  op ← one_at (as_table changes)
  at ← typed_at
  value ← after_comma_at typed_at
  ordering ← order_at
  align ← tail_at
  done (Rmw op at value ordering align)

unfoldable pub step_at : Read Kind
step_at = do
  inbounds ← flag_at (codes "inbounds")
  ty ← type_at
  base ← after_comma_at typed_at
  first ← after_comma_at typed_at
  path ← rows_after typed_at (first ∷ [])
  done (Gep inbounds ty base path)

abbrev pub value_at_form : ValueForm → Read Kind
value_at_form (Wraps op) = binary_at op WrapFlags
value_at_form (Divides op) = binary_at op ExactFlag
value_at_form (Mixes op) = binary_at op NoFlags
value_at_form Compares = compare_at
value_at_form (Casts op) = cast_at op
value_at_form Selects = select_at
value_at_form Phis = phi_at
value_at_form Allocas = alloca_at
value_at_form Loads = load_at
value_at_form Changes = change_at
value_at_form Steps = step_at

unfoldable pub value_at : Read Kind
value_at = do
  form ← one_at (as_table value_words)
  value_at_form form

-- ---- calls

unfoldable pub argument_at : Read Typed
argument_at = do
  before ← attributes_at
  ty ← type_at
  behind ← attributes_at
  value ← one_at (as_value ty)
  done (record { ty = ty; value = value })

abbrev pub callee_by : List ℕ → TokenKind → Option Value
callee_by bytes Local = Present (Register (stem_name bytes))
callee_by bytes Global = Present (GlobalValue (stem_name bytes))
callee_by bytes _ = Absent

abbrev pub as_callee : Lexeme → Option Value
as_callee t = callee_by (drop 1 t.bytes) t.kind

abbrev pub convention_goes : Option Lexeme → Bool
convention_goes t = goes (form_in (all_for (tt {0}) conventions) t)

-- the convention, the attributes and the type of a call's result
unfoldable pub call_type_at : Read Ty
call_type_at = do
  convention ← maybe_at tt convention_goes (one_at (as_one_of conventions))
  before ← attributes_at
  result_type_at

unfoldable pub called_at : TailWord → Read Kind
called_at tail_word = do
  ret ← call_type_at
  callee ← one_at as_callee
  open_ ← one_at (as_mark 40)
  operands ← list_at 41 argument_at
  behind ← call_end_at
  done (Call tail_word ret callee operands)

unfoldable pub bare_call_at : Read Kind
bare_call_at = do
  line ← one_at (as_word (codes "call"))
  called_at NoTailWord

unfoldable pub led_call_at : Read Kind
led_call_at = do
  tail_word ← one_at (as_table tail_words)
  line ← one_at (as_word (codes "call"))
  called_at tail_word

abbrev pub call_at_form : CallForm → Read Kind
call_at_form Bare = bare_call_at
call_at_form Led = led_call_at

abbrev pub call_words : List (List ℕ × CallForm)
call_words = (codes "call", Bare) ∷ (codes "tail", Led) ∷ (codes "notail", Led) ∷ []

abbrev pub call_goes : Option Lexeme → Bool
call_goes t = goes (form_in call_words t)

unfoldable pub call_at : Read Kind
call_at = pick (form_in call_words) call_at_form

-- ---- instructions that end no block

unfoldable pub assigned_at : Read Kind
assigned_at = either_at call_goes call_at value_at

unfoldable pub stored_at : Read Kind
stored_at = do
  atomic ← flag_at (codes "atomic")
  value ← typed_at
  at ← after_comma_at typed_at
  ordering ← order_if_at atomic
  align ← tail_at
  done (Store value at ordering align)

unfoldable pub fenced_at : Read Kind
fenced_at = do
  o ← order_at
  behind ← attachments_at
  done (Fence o)

unfoldable pub assignment_at : Read Inst
assignment_at = do
  x ← one_at (with_line_of as_local)
  equals ← one_at (as_mark 61)
  kind ← assigned_at
  done (at_line (Present x.0) x.1 kind)

unfoldable pub store_at : Read Inst
store_at = do
  line ← one_at (as_word (codes "store"))
  kind ← stored_at
  done (at_line Absent line kind)

unfoldable pub fence_at : Read Inst
fence_at = do
  line ← one_at (as_word (codes "fence"))
  kind ← fenced_at
  done (at_line Absent line kind)

unfoldable pub plain_call_at : Read Inst
plain_call_at = do
  line ← one_at (as_word (codes "call"))
  kind ← called_at NoTailWord
  done (at_line Absent line kind)

unfoldable pub tail_call_at : Read Inst
tail_call_at = do
  tail_word ← one_at (with_line_of (as_table tail_words))
  call_word ← one_at (as_word (codes "call"))
  kind ← called_at tail_word.0
  done (at_line Absent tail_word.1 kind)

abbrev pub plain_at_form : PlainForm → Read Inst
plain_at_form Assigns = assignment_at
plain_at_form Stores = store_at
plain_at_form Fences = fence_at
plain_at_form Calls = plain_call_at
plain_at_form TailCalls = tail_call_at

abbrev pub plain_words : List (List ℕ × PlainForm)
plain_words = (codes "store", Stores) ∷ (codes "fence", Fences) ∷ (codes "call", Calls) ∷ (codes "tail", TailCalls) ∷ (codes "notail", TailCalls) ∷ []

abbrev pub plain_form_of : Lexeme → Option PlainForm
plain_form_of t = if is_local t.kind then Present Assigns else as_table plain_words t

abbrev pub plain_ahead : Option Lexeme → Option PlainForm
plain_ahead Absent = Absent
plain_ahead (Present t) = plain_form_of t

abbrev pub plain_goes : Option Lexeme → Bool
plain_goes t = goes (plain_ahead t)

unfoldable pub plain_at : Read Inst
plain_at = pick plain_ahead plain_at_form

-- ---- instructions that end a block

unfoldable pub case_at : Read Case
case_at = do
  value ← typed_at
  block ← after_comma_at target_at
  done (record { value = value; block = block })

-- all but the mark that ends the cases begins one more
abbrev pub case_goes : Option Lexeme → Bool
case_goes Absent = false
case_goes (Present t) = not (is_mark 93 t.kind)

unfoldable pub cases_at : Read (List Case)
cases_at = do
  open_ ← one_at (as_mark 91)
  cases ← many_at case_goes case_at
  close ← one_at (as_mark 93)
  done cases

unfoldable pub switch_at : Read Kind
switch_at = do
  on ← typed_at
  other ← after_comma_at target_at
  cases ← cases_at
  behind ← attachments_at
  done (Switch on other cases)

unfoldable pub straight_at : Read Kind
straight_at = do
  to ← target_at
  behind ← attachments_at
  done (Br to)

unfoldable pub tested_at : Read Kind
tested_at = do
  c ← typed_at
  then_to ← after_comma_at target_at
  else_to ← after_comma_at target_at
  behind ← attachments_at
  done (CondBr c then_to else_to)

unfoldable pub branch_at : Read Kind
branch_at = either_at (at_word (codes "label")) straight_at tested_at

unfoldable pub return_nothing_at : Read Kind
return_nothing_at = do
  nothing ← one_at (as_word (codes "void"))
  behind ← attachments_at
  done (Ret Absent)

unfoldable pub return_value_at : Read Kind
return_value_at = do
  v ← typed_at
  behind ← attachments_at
  done (Ret (Present v))

unfoldable pub return_at : Read Kind
return_at = either_at (at_word (codes "void")) return_nothing_at return_value_at

unfoldable pub stop_at : Read Kind
stop_at = do
  behind ← attachments_at
  done Unreachable

abbrev pub last_at_form : LastForm → Read Kind
last_at_form Branches = branch_at
last_at_form Switches = switch_at
last_at_form Returns = return_at
last_at_form Stops = stop_at

unfoldable pub last_at : Read Inst
last_at = do
  form ← one_at (with_line_of (as_table last_words))
  kind ← last_at_form form.0
  done (at_line Absent form.1 kind)

-- ---- blocks

-- the instructions that are kept
unfoldable pub kept_at : Read (List Inst)
kept_at ts = then_read (many_at plain_goes plain_at ts) (λ insts. done (filter is_kept insts))

-- the instructions of a block whose label's name and line are given
unfoldable pub body_at : List ℕ × ℕ → Read Block
body_at label = do
  insts ← kept_at
  end ← last_at
  done (record { name = label.0; insts = insts ++ end ∷ []; line = label.1 })

abbrev pub label_goes : Option Lexeme → Bool
label_goes Absent = false
label_goes (Present t) = is_label t.kind

unfoldable pub block_at : Read Block
block_at = do
  label ← one_at (with_line_of as_label)
  body_at label
