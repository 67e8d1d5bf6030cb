-- Scopes in which all names stand for the same: by each rule the same is refused of an instruction.
use Rattle.std.proofs.Common.{◌≡◌, List, [], ◌∷◌, ◌++◌, Bool, false, Option, Some, None, ◌&&◌, refl, ap}
use Rattle.std.specs.List.{flat_map, list_all}
use Rattle.ir_core.specs.declared.types.Ty.{Ty}
use Rattle.ir_core.specs.declared.instructions.Value.{Value}
use Rattle.ir_core.specs.declared.instructions.Value.TheVariants.{Int as IntValue, Null, Local as LocalValue, Global as GlobalValue}
use Rattle.ir_core.specs.declared.instructions.Typed.{Typed}
use Rattle.ir_core.specs.declared.instructions.Edge.{Edge}
use Rattle.ir_core.specs.declared.instructions.Case.{Case}
use Rattle.ir_core.specs.declared.instructions.Kind.{Kind}
use Rattle.ir_core.specs.declared.instructions.Kind.TheVariants.{Bin, ICmp, Cast, Select, Phi, Alloca, Load, Store, Rmw, Gep, Fence, Call, Br, CondBr, Switch, Ret, Unreachable}
use Rattle.ir_core.specs.declared.instructions.Inst.{Inst}
use Rattle.ir_core.specs.FirstForm.{is_scalar, is_int_of, is_integer, is_ptr, is_void, same_scalar}
use Rattle.ir_core.specs.Places.{Name}
use Rattle.ir_core.specs.Given.{names_in, type_given, shape_of, symbol_given, local_given}
use Rattle.ir_core.specs.Typing.{Scope, expects, is_given, in_type, as_register, as_symbol, value_in, operand_in, pointer, as_target, target, as_block, predecessors, are_edges_from, edge, converts, is_atomic, ordered, inner_type, leads_on, goes_into, goes_along, calls_symbol, calls_local, calls, is_fork, compared_in_order, is_literal, case, returned, in_kind, in_result, in_inst}

pub record Agrees (s t : Scope) : Type 0 where
  pub types : s.module_.types ≡ t.module_.types
  pub values : (in_fork : Bool) (ty : Ty) (x : Name) → as_symbol in_fork ty (symbol_given s.module_ x) ≡ as_symbol in_fork ty (symbol_given t.module_ x)
  pub callees : (x : Name) (ret : Ty) (operands : List Typed) → calls_symbol x ret operands (symbol_given s.module_ x) ≡ calls_symbol x ret operands (symbol_given t.module_ x)
  pub names : s.names ≡ t.names
  pub result : s.function.ret ≡ t.function.ret
  pub sources : (b : Name) → predecessors s.function b ≡ predecessors t.function b

-- ---- types and operands

type_same : {s t : Scope} → Agrees s t → (ty : Ty) → in_type s.module_ ty ≡ in_type t.module_ ty
type_same a ty = ap (λ types. flat_map (λ x. is_given (type_given types x)) (names_in ty)) a.types

value_same : {s t : Scope} → Agrees s t → (in_fork : Bool) (ty : Ty) (v : Value) → value_in in_fork s ty v ≡ value_in in_fork t ty v
value_same a in_fork ty (IntValue n) = refl
value_same a in_fork ty Null = refl
value_same a in_fork ty (LocalValue x) = ap (λ names. as_register ty (local_given names x)) a.names
value_same a in_fork ty (GlobalValue x) = a.values in_fork ty x

operand_same : {s t : Scope} → Agrees s t → (in_fork : Bool) (v : Typed) → operand_in in_fork s v ≡ operand_in in_fork t v
operand_same a in_fork v = λ i. type_same a v.ty i ++ value_same a in_fork v.ty v.value i

pointer_same : {s t : Scope} → Agrees s t → (v : Typed) → pointer s v ≡ pointer t v
pointer_same a v = λ i. operand_same a false v i ++ expects (is_ptr v.ty)

target_same : {s t : Scope} → Agrees s t → (x : Name) → target s x ≡ target t x
target_same a x = ap (λ names. as_target (local_given names x)) a.names

-- ---- parts of instructions

edge_same : {s t : Scope} → Agrees s t → (ty : Ty) (e : Edge) → edge s ty e ≡ edge t ty e
edge_same a ty e = λ i. value_same a false ty e.value i ++ as_block (local_given (a.names i) e.block)

case_same : {s t : Scope} → Agrees s t → (ty : Ty) (c : Case) → case s ty c ≡ case t ty c
case_same a ty c = λ i. operand_same a false c.value i ++ expects (same_scalar ty c.value.ty && is_literal c.value.value) ++ target_same a c.block i

returned_same : {s t : Scope} → Agrees s t → (v : Option Typed) → returned s v ≡ returned t v
returned_same a None = ap (λ ty. expects (is_void ty)) a.result
returned_same a (Some v) = λ i. operand_same a false v i ++ expects (same_scalar (a.result i) v.ty)

into_same : {s t : Scope} → Agrees s t → (path : List Typed) (ty : Ty) → goes_into s.module_ path ty ≡ goes_into t.module_ path ty
into_same a [] ty = refl
into_same a (v ∷ path) ty = λ i. leads_on (λ u. into_same a path u i) (inner_type (shape_of (a.types i) ty) v.value)

along_same : {s t : Scope} → Agrees s t → (path : List Typed) (ty : Ty) → goes_along s.module_ path ty ≡ goes_along t.module_ path ty
along_same a [] ty = refl
along_same a (v ∷ path) ty = into_same a path ty

calls_same : {s t : Scope} → Agrees s t → (ret : Ty) (callee : Value) (operands : List Typed) → calls s ret callee operands ≡ calls t ret callee operands
calls_same a ret (GlobalValue x) operands = a.callees x ret operands
calls_same a ret (LocalValue x) operands = ap (λ names. calls_local (local_given names x)) a.names
calls_same a ret (IntValue n) operands = refl
calls_same a ret Null operands = refl

-- ---- instructions

kind_same : {s t : Scope} → Agrees s t → (b : Name) (k : Kind) → in_kind s b k ≡ in_kind t b k
kind_same a b (Bin op flags ty x y) = λ i. type_same a ty i ++ expects (is_integer ty) ++ value_same a false ty x i ++ value_same a false ty y i
kind_same a b (ICmp pred ty x y) = λ i. type_same a ty i ++ expects (is_scalar ty) ++ compared_in_order pred ty ++ value_same a false ty x i ++ value_same a false ty y i
kind_same a b (Cast op from to) = λ i. operand_same a false from i ++ type_same a to i ++ expects (converts op from.ty to)
kind_same a b (Select c x y) = λ i. operand_same a false c i ++ operand_same a false x i ++ operand_same a false y i ++ expects (is_int_of 1 c.ty && same_scalar x.ty y.ty)
kind_same a b (Phi ty edges) = λ i. type_same a ty i ++ expects (is_scalar ty) ++ flat_map (λ e. edge_same a ty e i) edges ++ expects (are_edges_from (a.sources b i) edges)
kind_same a b (Alloca ty align) = type_same a ty
kind_same a b (Load ty at order align) = λ i. type_same a ty i ++ expects (is_scalar ty) ++ pointer_same a at i ++ ordered order ty
kind_same a b (Store v at order align) = λ i. operand_same a false v i ++ pointer_same a at i ++ ordered order v.ty
kind_same a b (Rmw op at v order align) = λ i. pointer_same a at i ++ operand_same a false v i ++ expects (is_atomic v.ty)
kind_same a b (Gep inbounds ty base path) = λ i. type_same a ty i ++ pointer_same a base i ++ flat_map (λ v. operand_same a false v i) path ++ expects (list_all (λ v. is_integer v.ty) path && along_same a path ty i)
kind_same a b (Fence order) = refl
kind_same a b (Call tail_word ret callee operands) = λ i. type_same a ret i ++ calls_same a ret callee operands i ++ flat_map (λ v. operand_same a (is_fork callee) v i) operands
kind_same a b (Br to) = target_same a to
kind_same a b (CondBr c then_to else_to) = λ i. operand_same a false c i ++ expects (is_int_of 1 c.ty) ++ target_same a then_to i ++ target_same a else_to i
kind_same a b (Switch on other cases) = λ i. operand_same a false on i ++ expects (is_integer on.ty) ++ target_same a other i ++ flat_map (λ c. case_same a on.ty c i) cases
kind_same a b (Ret v) = returned_same a v
kind_same a b Unreachable = refl

pub inst_same : {s t : Scope} → Agrees s t → (b : Name) (i : Inst) → in_inst s b i ≡ in_inst t b i
inst_same a b i = ap (λ cs. cs ++ in_result i.kind i.result) (kind_same a b i.kind)
