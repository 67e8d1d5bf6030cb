-- What is refused of an instruction's operands and result, by one rule for each kind (LLVM Language Reference, "Instruction Reference").
-- Types are compared as they are written; a register has a scalar type.
use Rattle.std.specs.Prelude.{zero, suc, List, [], ◌∷◌, ◌++◌, map, slice_get, Bool, true, false, not, Option, Some, None, nat_lt, ◌==◌, ◌&&◌, if◌then◌else◌}
use Rattle.std.specs.List.{flat_map, list_all}
use Rattle.std.specs.Str.{bytes_eq}
use Rattle.ir_core.specs.declared.types.Ty.{Ty}
use Rattle.ir_core.specs.declared.types.Ty.TheOpen.{Ty-F}
use Rattle.ir_core.specs.declared.types.Ty.TheVariants.{Int as IntTy}
use Rattle.ir_core.specs.declared.instructions.Value.{Value}
use Rattle.ir_core.specs.declared.instructions.Value.TheVariants.{Int as IntValue, Null, Local as LocalValue, Global as GlobalValue}
use Rattle.ir_core.specs.declared.instructions.Typed.{Typed}
use Rattle.ir_core.specs.declared.instructions.Edge.{Edge}
use Rattle.ir_core.specs.declared.instructions.Case.{Case}
use Rattle.ir_core.specs.declared.instructions.Pred.{Pred}
use Rattle.ir_core.specs.declared.instructions.Pred.TheVariants.{Eq, Ne}
use Rattle.ir_core.specs.declared.instructions.CastOp.{CastOp}
use Rattle.ir_core.specs.declared.instructions.CastOp.TheVariants.{ZExt, SExt, Trunc, IntToPtr, PtrToInt}
use Rattle.ir_core.specs.declared.instructions.Order.{Order}
use Rattle.ir_core.specs.declared.instructions.Kind.{Kind}
use Rattle.ir_core.specs.declared.instructions.Kind.TheVariants.{Bin, ICmp, Cast, Select, Phi, Alloca, Load, Store, Rmw, Gep, Fence, Call, Br, CondBr, Switch, Ret, Unreachable}
use Rattle.ir_core.specs.declared.instructions.Inst.{Inst}
use Rattle.ir_core.specs.declared.module.Module.{Module}
use Rattle.ir_core.specs.declared.module.Function.{Function}
use Rattle.ir_core.specs.declared.module.Param.{Param}
use Rattle.ir_core.specs.declared.module.Block.{Block}
use Rattle.ir_core.specs.declared.refusal.Construct.{Construct}
use Rattle.ir_core.specs.declared.refusal.Construct.TheVariants.{MissingName, TypeMismatch, IndirectCall, UnknownCallee, PointerOrder, ModeIntrinsic}
use Rattle.ir_core.specs.EntryPoints.{entry_name, entry_point, entry_points, is_entry_point}
use Rattle.ir_core.specs.FirstForm.{is_scalar, is_int_of, is_integer, is_ptr, is_void, same_scalar, is_number_of}
use Rattle.ir_core.specs.Places.{Name}
use Rattle.ir_core.specs.Wrappers.{parallel, is_in}
use Rattle.ir_core.specs.Given.{names_in, type_given, shape_of, Symbol, Variable, Routine, symbol_given, Local, Register, Label, LocalName, local_names, local_given, result_type}

-- a function with its module and the names that it gives
pub record Scope : Type 0 where
  pub module_ : Module
  pub function : Function
  pub names : List LocalName

abbrev pub scope_of : Module → Function → Scope
scope_of m f = record { module_ = m; function = f; names = local_names f }

abbrev pub expects : Bool → List Construct
expects holds = if holds then [] else TypeMismatch ∷ []

abbrev pub is_given : {A : Type 0} → Option A → List Construct
is_given None = MissingName ∷ []
is_given (Some x) = []

-- each name in a type is a type's
abbrev pub in_type : Module → Ty → List Construct
in_type m ty = flat_map (λ x. is_given (type_given m.types x)) (names_in ty)

-- ---- operands

abbrev pub as_register : Ty → Option Local → List Construct
as_register ty None = MissingName ∷ []
as_register ty (Some (Register given)) = expects (same_scalar ty given)
as_register ty (Some (Label place)) = TypeMismatch ∷ []

-- a function's name is a value in a fork alone
abbrev pub as_symbol : Bool → Ty → Option Symbol → List Construct
as_symbol in_fork ty None = MissingName ∷ []
as_symbol in_fork ty (Some Variable) = expects (is_ptr ty)
as_symbol in_fork ty (Some (Routine f)) = (if in_fork then [] else IndirectCall ∷ []) ++ expects (is_ptr ty)

abbrev pub value_in : Bool → Scope → Ty → Value → List Construct
value_in in_fork s ty (IntValue n) = expects (is_number_of n ty)
value_in in_fork s ty Null = expects (is_ptr ty)
value_in in_fork s ty (LocalValue x) = as_register ty (local_given s.names x)
value_in in_fork s ty (GlobalValue x) = as_symbol in_fork ty (symbol_given s.module_ x)

abbrev pub value : Scope → Ty → Value → List Construct
value = value_in false

abbrev pub operand_in : Bool → Scope → Typed → List Construct
operand_in in_fork s v = in_type s.module_ v.ty ++ value_in in_fork s v.ty v.value

abbrev pub operand : Scope → Typed → List Construct
operand = operand_in false

abbrev pub pointer : Scope → Typed → List Construct
pointer s v = operand s v ++ expects (is_ptr v.ty)

-- ---- blocks as targets

abbrev pub as_target : Option Local → List Construct
as_target None = MissingName ∷ []
as_target (Some (Register ty)) = TypeMismatch ∷ []
as_target (Some (Label zero)) = TypeMismatch ∷ []
as_target (Some (Label (suc place))) = []

-- a block that isn't the first
abbrev pub target : Scope → Name → List Construct
target s x = as_target (local_given s.names x)

abbrev pub as_block : Option Local → List Construct
as_block None = MissingName ∷ []
as_block (Some (Register ty)) = TypeMismatch ∷ []
as_block (Some (Label place)) = []

-- ---- phis

abbrev pub targets_of : Kind → List Name
targets_of (Br to) = to ∷ []
targets_of (CondBr c then_to else_to) = then_to ∷ else_to ∷ []
targets_of (Switch on other cases) = other ∷ map (λ c. c.block) cases
targets_of _ = []

abbrev pub goes_to : Name → Block → List Name
goes_to x b = if is_in (flat_map (λ i. targets_of i.kind) b.insts) x then b.name ∷ [] else []

-- the blocks that branch to a block
abbrev pub predecessors : Function → Name → List Name
predecessors f x = flat_map (goes_to x) f.blocks

abbrev pub same_value : Value → Value → Bool
same_value (IntValue n) (IntValue k) = n == k
same_value Null Null = true
same_value (LocalValue x) (LocalValue y) = bytes_eq x y
same_value (GlobalValue x) (GlobalValue y) = bytes_eq x y
same_value _ _ = false

abbrev pub agrees_with : Edge → Edge → Bool
agrees_with e d = if bytes_eq e.block d.block then same_value e.value d.value else true

-- the edges are from exactly these blocks; several from one block have one value
abbrev pub are_edges_from : List Name → List Edge → Bool
are_edges_from blocks edges = list_all (λ e. is_in blocks e.block) edges && list_all (is_in (map (λ e. e.block) edges)) blocks && list_all (λ e. list_all (agrees_with e) edges) edges

abbrev pub edge : Scope → Ty → Edge → List Construct
edge s ty e = value s ty e.value ++ as_block (local_given s.names e.block)

-- ---- conversions, accesses and addresses

abbrev pub is_narrower : Ty → Ty → Bool
is_narrower (IntTy width) (IntTy other) = nat_lt width other
is_narrower _ _ = false

abbrev pub converts : CastOp → Ty → Ty → Bool
converts ZExt from to = is_narrower from to
converts SExt from to = is_narrower from to
converts Trunc from to = is_narrower to from
converts IntToPtr from to = is_integer from && is_ptr to
converts PtrToInt from to = is_ptr from && is_integer to

-- i8 to i64
abbrev pub is_atomic : Ty → Bool
is_atomic ty = is_integer ty && not (is_int_of 1 ty)

abbrev pub ordered : Option Order → Ty → List Construct
ordered None ty = []
ordered (Some order) ty = expects (is_atomic ty)

-- a struct's index is a number in the range of its fields
abbrev pub field_at : List Ty → Value → Option Ty
field_at fields (IntValue n) = slice_get fields n
field_at fields _ = None

abbrev pub inner_type : Ty-F Ty → Value → Option Ty
inner_type (Ty-F.Array n item) index = Some item
inner_type (Ty-F.Struct fields) index = field_at fields index
inner_type _ index = None

abbrev pub leads_on : (Ty → Bool) → Option Ty → Bool
leads_on go None = false
leads_on go (Some ty) = go ty

-- the indices behind the first go into the type
abbrev pub goes_into : Module → List Typed → Ty → Bool
goes_into m [] ty = true
goes_into m (v ∷ path) ty = leads_on (goes_into m path) (inner_type (shape_of m.types ty) v.value)

abbrev pub goes_along : Module → List Typed → Ty → Bool
goes_along m [] ty = false
goes_along m (first ∷ path) ty = goes_into m path ty

-- ---- calls

abbrev pub same_result : Ty → Ty → Bool
same_result a b = if is_void a then is_void b else same_scalar a b

abbrev pub are_arguments : List Param → List Typed → Bool
are_arguments [] [] = true
are_arguments (p ∷ ps) (v ∷ vs) = same_scalar p.ty v.ty && are_arguments ps vs
are_arguments _ _ = false

abbrev pub is_output : Name → Bool
is_output x = is_in (flat_map (λ r. if (entry_point r).is_output then entry_name r ∷ [] else []) entry_points) x

abbrev pub if_declared : List Block → List Construct → List Construct
if_declared [] constructs = constructs
if_declared (b ∷ bs) constructs = []

abbrev pub if_unknown : Name → List Construct
if_unknown x = if is_entry_point x then [] else UnknownCallee ∷ []

abbrev pub if_output : Name → List Construct
if_output x = if is_output x then ModeIntrinsic ∷ [] else []

-- a call of a function with its types; one that is only declared is an entry point that modules may call
abbrev pub calls_symbol : Name → Ty → List Typed → Option Symbol → List Construct
calls_symbol x ret operands None = MissingName ∷ []
calls_symbol x ret operands (Some Variable) = TypeMismatch ∷ []
calls_symbol x ret operands (Some (Routine f)) = expects (same_result f.ret ret && are_arguments f.params operands) ++ if_declared f.blocks (if_unknown x) ++ if_output x

abbrev pub calls_local : Option Local → List Construct
calls_local None = MissingName ∷ IndirectCall ∷ []
calls_local (Some (Register ty)) = IndirectCall ∷ []
calls_local (Some (Label place)) = TypeMismatch ∷ IndirectCall ∷ []

abbrev pub calls : Scope → Ty → Value → List Typed → List Construct
calls s ret (GlobalValue x) operands = calls_symbol x ret operands (symbol_given s.module_ x)
calls s ret (LocalValue x) operands = calls_local (local_given s.names x)
calls s ret _ operands = TypeMismatch ∷ []

abbrev pub is_fork : Value → Bool
is_fork (GlobalValue x) = bytes_eq x parallel
is_fork _ = false

-- ---- the instructions

abbrev pub compared_in_order : Pred → Ty → List Construct
compared_in_order Eq ty = []
compared_in_order Ne ty = []
compared_in_order _ ty = if is_ptr ty then PointerOrder ∷ [] else []

-- a case is a number of the operand's type, and its block
abbrev pub is_literal : Value → Bool
is_literal (IntValue n) = true
is_literal _ = false

abbrev pub case : Scope → Ty → Case → List Construct
case s ty c = operand s c.value ++ expects (same_scalar ty c.value.ty && is_literal c.value.value) ++ target s c.block

abbrev pub returned : Scope → Option Typed → List Construct
returned s None = expects (is_void s.function.ret)
returned s (Some v) = operand s v ++ expects (same_scalar s.function.ret v.ty)

-- an instruction of a kind in the block of a name
abbrev pub in_kind : Scope → Name → Kind → List Construct
in_kind s b (Bin op flags ty x y) = in_type s.module_ ty ++ expects (is_integer ty) ++ value s ty x ++ value s ty y
in_kind s b (ICmp pred ty x y) = in_type s.module_ ty ++ expects (is_scalar ty) ++ compared_in_order pred ty ++ value s ty x ++ value s ty y
in_kind s b (Cast op from to) = operand s from ++ in_type s.module_ to ++ expects (converts op from.ty to)
in_kind s b (Select c x y) = operand s c ++ operand s x ++ operand s y ++ expects (is_int_of 1 c.ty && same_scalar x.ty y.ty)
in_kind s b (Phi ty edges) = in_type s.module_ ty ++ expects (is_scalar ty) ++ flat_map (edge s ty) edges ++ expects (are_edges_from (predecessors s.function b) edges)
in_kind s b (Alloca ty align) = in_type s.module_ ty
in_kind s b (Load ty at order align) = in_type s.module_ ty ++ expects (is_scalar ty) ++ pointer s at ++ ordered order ty
in_kind s b (Store v at order align) = operand s v ++ pointer s at ++ ordered order v.ty
in_kind s b (Rmw op at v order align) = pointer s at ++ operand s v ++ expects (is_atomic v.ty)
in_kind s b (Gep inbounds ty base path) = in_type s.module_ ty ++ pointer s base ++ flat_map (operand s) path ++ expects (list_all (λ v. is_integer v.ty) path && goes_along s.module_ path ty)
in_kind s b (Fence order) = []
in_kind s b (Call tail_word ret callee operands) = in_type s.module_ ret ++ calls s ret callee operands ++ flat_map (operand_in (is_fork callee) s) operands
in_kind s b (Br to) = target s to
in_kind s b (CondBr c then_to else_to) = operand s c ++ expects (is_int_of 1 c.ty) ++ target s then_to ++ target s else_to
in_kind s b (Switch on other cases) = operand s on ++ expects (is_integer on.ty) ++ target s other ++ flat_map (case s on.ty) cases
in_kind s b (Ret v) = returned s v
in_kind s b Unreachable = []

-- a result has a scalar type
abbrev pub in_result : Kind → Option Name → List Construct
in_result kind None = []
in_result kind (Some x) = expects (is_scalar (result_type kind))

abbrev pub in_inst : Scope → Name → Inst → List Construct
in_inst s b i = in_kind s b i.kind ++ in_result i.kind i.result
