-- The type of a new block of the stack has a size, and so has the one that a getelementptr goes through.
use Rattle.std.proofs.Common.{◌≡◌, ℕ, zero, suc, List, [], ◌∷◌, ◌++◌, Option, Some, None, is_some, Bool, true, false, not, ◌&&◌, refl, sym, ap, ◌∙◌, subst, if◌then◌else◌}
use Rattle.std.specs.Prelude.{slice_get}
use Rattle.std.specs.List.{flat_map, list_all}
use Rattle.std.specs.Str.{bytes_eq}
use Rattle.std.proofs.lemmas.Option.{none-some, same_Some}
use Rattle.std.proofs.lemmas.Slice.Eq.{bytes_eq-Decides}
use Rattle.ir_core.specs.declared.types.Ty.{Ty}
use Rattle.ir_core.specs.declared.instructions.Kind.{Kind}
use Rattle.ir_core.specs.declared.instructions.Kind.TheVariants.{Bin, ICmp, Cast, Select, Phi, Alloca, Load, Store, Rmw, Gep, Fence, Call, Br, CondBr, Switch, Ret, Unreachable}
use Rattle.ir_core.specs.declared.instructions.Inst.{Inst}
use Rattle.ir_core.specs.declared.module.Module.{Module}
use Rattle.ir_core.specs.declared.module.Function.{Function}
use Rattle.ir_core.specs.declared.module.Block.{Block}
use Rattle.ir_core.specs.declared.module.TypeDef.{TypeDef}
use Rattle.ir_core.specs.FirstForm.{is_integer}
use Rattle.ir_core.specs.Given.{names_in, type_given}
use Rattle.ir_core.specs.NameRefusals.{of_type, contains_itself, in_order, is_phi, of_insts, of_block}
use Rattle.ir_core.specs.Places.{Name, Place, block_in, inst_in, inst_at}
use Rattle.ir_core.specs.Typing.{Scope, scope_of, expects, is_given, in_type, pointer, operand, goes_along, in_kind, in_result, in_inst}
use Rattle.ir_core.specs.Wrappers.{is_in}
use Rattle.shapes.specs.Limits.{kind_types}
use Rattle.accepted_laws.specs.Accepted.{TypesHaveSizes}
use Rattle.accepted_laws.specs.Sized.{are_parts_sized}
use Rattle.accepted_laws.proofs.Nothing.{not_both, something, front_none, back_none, each_none, nothing_at, holds, all_at}
use Rattle.accepted_laws.proofs.Clean.{Clean, clean, clean_function}
use Rattle.accepted_laws.proofs.Chains.{AllGiven, AreSized, well}
use Rattle.accepted_laws.proofs.SizedInsts.{inst_sized, block_sized, function_sized}
use Rattle.accepted_laws.proofs.SizedModules.{SizedModule, def_sized, formed_sized}

-- ---- the names in types

given_some : (o : Option Ty) → is_given o ≡ [] → is_some o ≡ true
given_some None e = something _ _ e
given_some (Some t) e = refl

names_given : (m : Module) (xs : List Name) → flat_map (λ x. is_given (type_given m.types x)) xs ≡ [] → AllGiven m.types xs
names_given m [] e z i = not_both false i refl
names_given m (x ∷ xs) e z i = by (bytes_eq z x) refl i (names_given m xs (back_none (is_given (type_given m.types x)) (flat_map (λ x. is_given (type_given m.types x)) xs) e) z)
  where
    by : (b : Bool) → bytes_eq z x ≡ b → (if b then true else is_in xs z) ≡ true → (is_in xs z ≡ true → is_some (type_given m.types z) ≡ true) → is_some (type_given m.types z) ≡ true
    by true h j rest = ap (λ y. is_some (type_given m.types y)) ((bytes_eq-Decides z x).0 h) ∙ given_some (type_given m.types x) (front_none (is_given (type_given m.types x)) (flat_map (λ x. is_given (type_given m.types x)) xs) e)
    by false h j rest = rest j

-- ---- the types of a module

turned : (b : Bool) → not b ≡ true → b ≡ false
turned true e = sym e
turned false e = refl

are_sized : (m : Module) → Clean m → SizedModule m → AreSized m.types
are_sized m c s = record {
  once = c.once;
  given = λ place d is. names_given m (names_in d.body) (front_none (in_type m d.body) (expects (not (contains_itself m.types d))) (refused place d is));
  apart = λ place d is. turned (contains_itself m.types d) (holds (not (contains_itself m.types d)) (back_none (in_type m d.body) (expects (not (contains_itself m.types d))) (refused place d is)));
  sized = λ place d is. all_at def_sized m.types place d s.types is;
}
  where
    refused : (place : ℕ) (d : TypeDef) → slice_get m.types place ≡ Some d → in_type m d.body ++ expects (not (contains_itself m.types d)) ≡ []
    refused place d is = nothing_at d.line (in_type m d.body ++ expects (not (contains_itself m.types d))) (each_none (of_type m) m.types place d c.types is)

-- ---- instructions

record There (m : Module) (p : Place) (i : Inst) : Type 0 where
  function : Function
  in_module : slice_get m.functions p.function ≡ Some function
  block : Block
  in_function : slice_get function.blocks p.block ≡ Some block
  in_block : slice_get block.insts p.index ≡ Some i

there : (m : Module) (p : Place) (i : Inst) → inst_at m p ≡ Some i → There m p i
there m p i e = by (slice_get m.functions p.function) refl e
  where
    inside : (f : Function) → slice_get m.functions p.function ≡ Some f → (o : Option Block) → slice_get f.blocks p.block ≡ o → inst_in o p.index ≡ Some i → There m p i
    inside f is None was e = absurd (none-some i e)
    inside f is (Some b) was e = record { function = f; in_module = is; block = b; in_function = was; in_block = e }

    by : (o : Option Function) → slice_get m.functions p.function ≡ o → inst_in (block_in o p.block) p.index ≡ Some i → There m p i
    by None is e = absurd (none-some i e)
    by (Some f) is e = inside f is (slice_get f.blocks p.block) refl e

in_insts : (s : Scope) (b : Name) (phis : Bool) (is : List Inst) (place : ℕ) (i : Inst) → of_insts s b phis is ≡ [] → slice_get is place ≡ Some i → in_inst s b i ≡ []
in_insts s b phis [] place i e at_ = absurd (none-some i at_)
in_insts s b phis (j ∷ is) zero i e at_ =
    let own = nothing_at j.line (in_inst s b j ++ in_order phis j.kind) (front_none _ (of_insts s b (phis && is_phi j.kind) is) e) in
    subst (λ k. in_inst s b k ≡ []) (same_Some j i at_) (front_none (in_inst s b j) (in_order phis j.kind) own)
in_insts s b phis (j ∷ is) (suc place) i e at_ = in_insts s b (phis && is_phi j.kind) is place i (back_none _ (of_insts s b (phis && is_phi j.kind) is) e) at_

only_type : (s : Scope) (a b : Ty) (place : ℕ) → in_type s.module_ a ≡ [] → slice_get (a ∷ []) place ≡ Some b → in_type s.module_ b ≡ []
only_type s a b zero e is = subst (λ t. in_type s.module_ t ≡ []) (same_Some a b is) e
only_type s a b (suc place) e is = absurd (none-some b is)

types_in : (s : Scope) (b : Name) (k : Kind) (place : ℕ) (t : Ty) → in_kind s b k ≡ [] → slice_get (kind_types k) place ≡ Some t → in_type s.module_ t ≡ []
types_in s b (Bin op flags ty x y) place t e is = absurd (none-some t is)
types_in s b (ICmp pred ty x y) place t e is = absurd (none-some t is)
types_in s b (Cast op from to) place t e is = absurd (none-some t is)
types_in s b (Select c x y) place t e is = absurd (none-some t is)
types_in s b (Phi ty edges) place t e is = absurd (none-some t is)
types_in s b (Alloca ty align) place t e is = only_type s ty t place e is
types_in s b (Load ty at_ order align) place t e is = absurd (none-some t is)
types_in s b (Store v at_ order align) place t e is = absurd (none-some t is)
types_in s b (Rmw op at_ v order align) place t e is = absurd (none-some t is)
types_in s b (Gep inbounds ty base path) place t e is =
    let a = in_type s.module_ ty in
    let c = pointer s base in
    let d = flat_map (operand s) path in
    let f = expects (list_all (λ v. is_integer v.ty) path && goes_along s.module_ path ty) in
    only_type s ty t place (front_none a c (front_none (a ++ c) d (front_none ((a ++ c) ++ d) f e))) is
types_in s b (Fence order) place t e is = absurd (none-some t is)
types_in s b (Call tail_word ret callee operands) place t e is = absurd (none-some t is)
types_in s b (Br to) place t e is = absurd (none-some t is)
types_in s b (CondBr c then_to else_to) place t e is = absurd (none-some t is)
types_in s b (Switch on other cases) place t e is = absurd (none-some t is)
types_in s b (Ret v) place t e is = absurd (none-some t is)
types_in s b Unreachable place t e is = absurd (none-some t is)

pub types_have_sizes : TypesHaveSizes
types_have_sizes m formed e p i place ty at_ is =
    let c = clean m e in
    let s = formed_sized m formed in
    let t = there m p i at_ in
    let scope = scope_of m t.function in
    let block_clean = each_none (of_block scope) t.function.blocks p.block t.block (clean_function m c p.function t.function t.in_module).blocks t.in_function in
    let kind_clean = front_none (in_kind scope t.block.name i.kind) (in_result i.kind i.result) (in_insts scope t.block.name true t.block.insts p.index i block_clean t.in_block) in
    let function_is = all_at function_sized m.functions p.function t.function s.functions t.in_module in
    let inst_is = all_at inst_sized t.block.insts p.index i (all_at block_sized t.function.blocks p.block t.block function_is t.in_function) t.in_block in
    well m.types (are_sized m c s) ty (all_at are_parts_sized (kind_types i.kind) place ty inst_is is) (names_given m (names_in ty) (types_in scope t.block.name i.kind place ty kind_clean is))
