-- Nothing is refused of a module whose machine is switched off: the flag of an init call is an i1, of which 0 is a number.
use Rattle.std.proofs.Common.{◌≡◌, ℕ, zero, suc, List, [], ◌∷◌, ◌++◌, Bool, true, false, cond, ◌||◌, ◌&&◌, Option, Some, None, nat_lt, refl, sym, ap, ◌∙◌, subst, if◌then◌else◌}
use Rattle.std.specs.Prelude.{slice_get}
use Rattle.std.specs.List.{find, flat_map, list_any}
use Rattle.std.specs.Str.{bytes_eq}
use Rattle.std.proofs.lemmas.Bool.{and_parts, eqb-true}
use Rattle.std.proofs.lemmas.Option.{same_Some}
use Rattle.std.proofs.lemmas.Slice.Eq.{bytes_eq-Decides}
use Rattle.ir_core.specs.declared.types.Ty.{Ty}
use Rattle.ir_core.specs.declared.types.Ty.TheVariants.{Int as IntTy, Ptr}
use Rattle.ir_core.specs.declared.instructions.Value.{Value}
use Rattle.ir_core.specs.declared.instructions.Value.TheVariants.{Int as IntValue, Null, Local as LocalValue, Global as GlobalValue}
use Rattle.ir_core.specs.declared.instructions.Typed.{Typed}
use Rattle.ir_core.specs.declared.instructions.TailWord.{TailWord}
use Rattle.ir_core.specs.declared.instructions.Kind.{Kind}
use Rattle.ir_core.specs.declared.instructions.Kind.TheVariants.{Call}
use Rattle.ir_core.specs.declared.module.Module.{Module}
use Rattle.ir_core.specs.declared.module.Function.{Function}
use Rattle.ir_core.specs.declared.module.Block.{Block}
use Rattle.ir_core.specs.declared.module.Param.{Param}
use Rattle.ir_core.specs.declared.module.Global.{Global}
use Rattle.ir_core.specs.declared.refusal.Construct.{Construct}
use Rattle.ir_core.specs.declared.refusal.Construct.TheVariants.{Signature}
use Rattle.ir_core.specs.EntryPoints.{target_init, entry_name, entry_point, entry_points, is_entry_point}
use Rattle.ir_core.specs.FirstForm.{is_scalar, is_int_of, same_scalar, is_number_of}
use Rattle.ir_core.specs.Places.{Name}
use Rattle.ir_core.specs.Given.{Symbol, Variable, Routine, first_symbol, symbol_given, result_type}
use Rattle.ir_core.specs.Typing.{Scope, scope_of, expects, in_type, value_in, operand_in, targets_of, same_result, are_arguments, if_declared, if_unknown, if_output, calls_symbol, is_fork, in_kind, in_result}
use Rattle.ir_core.specs.NameRefusals.{are_declared, is_result_of, is_declared_as, in_declaration, in_signature, in_param, in_heading, is_result, is_phi, name_refusals}
use Rattle.ir_core.specs.MachineOff.{operands_off, kind_off, inst_off, machine_off}
use Rattle.accepted_laws.proofs.Nothing.{not_both, front_none, back_none, holds, something}
use Rattle.accepted_laws.proofs.Clean.{Clean, clean, clean_function}
use Rattle.output_laws.specs.Names.{KeepsNames, KeepsRules}
use Rattle.output_laws.proofs.Refused.{edits_keep_names}

-- ---- what an init call calls

-- the first that passes a test stands in the list, and passes it
pub found : {X : Type 0} (test : X → Bool) (xs : List X) (x : X) → find test xs ≡ Some x → (at : ℕ) × (slice_get xs at ≡ Some x) × (test x ≡ true)
found {X} test [] x e = absurd (let f : ◌≡◌ {A = Option X} None (Some x) = e in cc)
found {X} test (y ∷ ys) x e = by (test y) refl e (found test ys x)
  where
    by : (b : Bool) → test y ≡ b → cond b (Some y) (find test ys) ≡ Some x → (find test ys ≡ Some x → (at : ℕ) × (slice_get ys at ≡ Some x) × (test x ≡ true)) → (at : ℕ) × (slice_get (y ∷ ys) at ≡ Some x) × (test x ≡ true)
    by true t s more = (zero, s, subst (λ z. test z ≡ true) (same_Some y x s) t)
    by false t s more = let r = more s in (suc r.0, r.1, r.2)

pub first_found : (g : Option Global) (o : Option Function) (f : Function) → first_symbol g o ≡ Some (Routine f) → o ≡ Some f
first_found None None f e = absurd (let k : ◌≡◌ {A = Option Symbol} None (Some (Routine f)) = e in cc)
first_found (Some g) None f e = absurd (let k : ◌≡◌ {A = Option Symbol} (Some Variable) (Some (Routine f)) = e in cc)
first_found None (Some h) f e = let k : ◌≡◌ {A = Option Symbol} (Some (Routine h)) (Some (Routine f)) = e in let z : h ≡ f = cc in ap Some z
first_found (Some g) (Some h) f e = by (nat_lt h.line g.line) e
  where
    by : (b : Bool) → (if b then Some (Routine h) else Some Variable) ≡ Some (Routine f) → Some h ≡ Some f
    by true e = let k : ◌≡◌ {A = Option Symbol} (Some (Routine h)) (Some (Routine f)) = e in let z : h ≡ f = cc in ap Some z
    by false e = absurd (let k : ◌≡◌ {A = Option Symbol} (Some Variable) (Some (Routine f)) = e in cc)

-- ---- how it is declared

abbrev pub init_params : List Ty
init_params = Ptr ∷ IntTy 8 ∷ IntTy 1 ∷ []

or_false : (b : Bool) → (b || false) ≡ true → b ≡ true
or_false true e = refl
or_false false e = e

-- whether a function of a name is declared with these types
abbrev declares : Ty → List Param → Name → Bool
declares ret params x = list_any (λ r. bytes_eq x (entry_name r) && is_result_of r ret && are_declared (entry_point r).params params) entry_points

declared_params : (f : Function) → f.name ≡ target_init → list_any (is_declared_as f) entry_points ≡ true → are_declared init_params f.params ≡ true
declared_params f n e =
    let d : declares f.ret f.params target_init ≡ true = ap (declares f.ret f.params) (sym n) ∙ e in
    (and_parts (same_result (IntTy 32) f.ret) (are_declared init_params f.params) (or_false (same_result (IntTy 32) f.ret && are_declared init_params f.params) d)).1

in_declaration_none : (f : Function) (bs : List Block) → in_declaration f bs ≡ [] → list_any (is_declared_as f) entry_points ≡ true
in_declaration_none f [] e = by (list_any (is_declared_as f) entry_points) (front_none (if list_any (is_declared_as f) entry_points then [] else Signature ∷ []) (if_output f.name) e)
  where
    by : (b : Bool) → ◌≡◌ {A = List Construct} (if b then [] else Signature ∷ []) [] → b ≡ true
    by true e = refl
    by false e = something _ _ e
in_declaration_none f (b ∷ bs) e = something _ _ e

pub init_declared : (m : Module) (f : Function) → f.name ≡ target_init → in_heading m f ≡ [] → are_declared init_params f.params ≡ true
init_declared m f n e =
    let s : in_signature f ≡ [] = back_none (in_type m f.ret ++ expects (is_result f.ret) ++ flat_map (in_param m) f.params) (in_signature f) e in
    let entry : is_entry_point f.name ≡ true = ap is_entry_point n in
    let d : in_declaration f f.blocks ≡ [] = sym (ap (λ b. if b then in_declaration f f.blocks else []) entry) ∙ s in
    declared_params f n (in_declaration_none f f.blocks d)

-- ---- its flag

int_is : (width : ℕ) (ty : Ty) → is_int_of width ty ≡ true → ty ≡ IntTy width
int_is width (IntTy w) e = ap IntTy (eqb-true w width e)
int_is width _ e = let f : ⊥ = cc in absurd f

flag_is : (params : List Param) (place mode flag : Typed) → are_declared init_params params ≡ true → are_arguments params (place ∷ mode ∷ flag ∷ []) ≡ true → is_number_of 0 flag.ty ≡ true
flag_is (p ∷ q ∷ r ∷ []) place mode flag d a =
    let d3 = (and_parts (is_int_of 1 r.ty) true (and_parts (is_int_of 8 q.ty) (is_int_of 1 r.ty && true) (and_parts (same_scalar Ptr p.ty) (is_int_of 8 q.ty && (is_int_of 1 r.ty && true)) d).1).1).0 in
    let a3 = (and_parts (same_scalar r.ty flag.ty) true (and_parts (same_scalar q.ty mode.ty) (same_scalar r.ty flag.ty && true) (and_parts (same_scalar p.ty place.ty) (same_scalar q.ty mode.ty && (same_scalar r.ty flag.ty && true)) a).1).1).0 in
    let t : is_int_of 1 flag.ty ≡ true = subst (λ ty. same_scalar ty flag.ty ≡ true) (int_is 1 r.ty d3) a3 in
    subst (λ ty. is_number_of 0 ty ≡ true) (sym (int_is 1 flag.ty t)) refl
flag_is [] place mode flag d a = not_both false d refl
flag_is (p ∷ []) place mode flag d a = not_both false (and_parts (same_scalar Ptr p.ty) false d).1 refl
flag_is (p ∷ q ∷ []) place mode flag d a = not_both false (and_parts (is_int_of 8 q.ty) false (and_parts (same_scalar Ptr p.ty) (is_int_of 8 q.ty && false) d).1).1 refl
flag_is (p ∷ q ∷ r ∷ t ∷ ps) place mode flag d a =
    let behind_p = (and_parts (same_scalar Ptr p.ty) (is_int_of 8 q.ty && (is_int_of 1 r.ty && false)) d).1 in
    let behind_q = (and_parts (is_int_of 8 q.ty) (is_int_of 1 r.ty && false) behind_p).1 in
    not_both false (and_parts (is_int_of 1 r.ty) false behind_q).1 refl

-- so 0 is a number of the flag's type, where nothing is refused of the call
flag_fine : (m : Module) → Clean m → (x : Name) (ret : Ty) (place mode flag : Typed) → bytes_eq x target_init ≡ true → (o : Option Symbol) → symbol_given m x ≡ o → calls_symbol x ret (place ∷ mode ∷ flag ∷ []) o ≡ [] → is_number_of 0 flag.ty ≡ true
flag_fine m c x ret place mode flag n None is e = something _ _ e
flag_fine m c x ret place mode flag n (Some Variable) is e = something _ _ e
flag_fine m c x ret place mode flag n (Some (Routine f)) is e =
    let at = found (λ (f : Function). bytes_eq f.name x) m.functions f (first_found _ _ f is) in
    let name : f.name ≡ target_init = (bytes_eq-Decides f.name x).0 at.2 ∙ (bytes_eq-Decides x target_init).0 n in
    let typed = expects (same_result f.ret ret && are_arguments f.params (place ∷ mode ∷ flag ∷ [])) in
    let known = if_declared f.blocks (if_unknown x) in
    let fits = holds _ (front_none typed known (front_none (typed ++ known) (if_output x) e)) in
    let params = init_declared m f name (clean_function m c at.0 f at.1).heading in
    flag_is f.params place mode flag params (and_parts (same_result f.ret ret) (are_arguments f.params (place ∷ mode ∷ flag ∷ [])) fits).1

-- ---- the call

arguments_off : (params : List Param) (operands : List Typed) → are_arguments params (operands_off operands) ≡ are_arguments params operands
arguments_off params [] = refl
arguments_off params (a ∷ []) = refl
arguments_off params (a ∷ b ∷ []) = refl
arguments_off [] (a ∷ b ∷ c ∷ []) = refl
arguments_off (p ∷ []) (a ∷ b ∷ c ∷ []) = refl
arguments_off (p ∷ q ∷ []) (a ∷ b ∷ c ∷ []) = refl
arguments_off (p ∷ q ∷ r ∷ []) (a ∷ b ∷ c ∷ []) = refl
arguments_off (p ∷ q ∷ r ∷ t ∷ ps) (a ∷ b ∷ c ∷ []) = refl
arguments_off params (a ∷ b ∷ c ∷ d ∷ operands) = refl

callee_off : (x : Name) (ret : Ty) (operands : List Typed) (o : Option Symbol) → calls_symbol x ret (operands_off operands) o ≡ calls_symbol x ret operands o
callee_off x ret operands None = refl
callee_off x ret operands (Some Variable) = refl
callee_off x ret operands (Some (Routine f)) = ap (λ b. expects (same_result f.ret ret && b) ++ if_declared f.blocks (if_unknown x) ++ if_output x) (arguments_off f.params operands)

-- the operands, of which the last is a number of its type
operands_fine : (in_fork : Bool) (s : Scope) (operands : List Typed) → ((place mode flag : Typed) → operands ≡ place ∷ mode ∷ flag ∷ [] → is_number_of 0 flag.ty ≡ true) → flat_map (operand_in in_fork s) operands ≡ [] → flat_map (operand_in in_fork s) (operands_off operands) ≡ []
operands_fine in_fork s [] n e = e
operands_fine in_fork s (a ∷ []) n e = e
operands_fine in_fork s (a ∷ b ∷ []) n e = e
operands_fine in_fork s (a ∷ b ∷ c ∷ []) n e =
    let more = operand_in in_fork s b ++ (operand_in in_fork s c ++ []) in
    let behind_a = back_none (operand_in in_fork s a) more e in
    let behind_b = back_none (operand_in in_fork s b) (operand_in in_fork s c ++ []) behind_a in
    let here = front_none (in_type s.module_ c.ty) (value_in in_fork s c.ty c.value) (front_none (operand_in in_fork s c) [] behind_b) in
    let new : expects (is_number_of 0 c.ty) ≡ [] = ap expects (n a b c refl) in
    let first = front_none (operand_in in_fork s a) more e in
    let second = front_none (operand_in in_fork s b) (operand_in in_fork s c ++ []) behind_a in
    λ k. first k ++ (second k ++ ((here k ++ new k) ++ []))
operands_fine in_fork s (a ∷ b ∷ c ∷ d ∷ operands) n e = e

init_fine : (m : Module) → Clean m → (f : Function) (b : Name) (tail_word : TailWord) (ret : Ty) (x : Name) (operands : List Typed) → bytes_eq x target_init ≡ true → in_kind (scope_of m f) b (Call tail_word ret (GlobalValue x) operands) ≡ [] → in_kind (scope_of m f) b (Call tail_word ret (GlobalValue x) (operands_off operands)) ≡ []
init_fine m c f b tail_word ret x operands n e =
    let s = scope_of m f in
    let fork = is_fork (GlobalValue x) in
    let types = in_type m ret in
    let callee = calls_symbol x ret operands (symbol_given m x) in
    let values = flat_map (operand_in fork s) operands in
    let front = front_none (types ++ callee) values e in
    let called = back_none types callee front in
    let new = operands_fine fork s operands (λ place mode flag same. flag_fine m c x ret place mode flag n (symbol_given m x) refl (ap (λ os. calls_symbol x ret os (symbol_given m x)) (sym same) ∙ called)) (back_none (types ++ callee) values e) in
    let call = callee_off x ret operands (symbol_given m x) ∙ called in
    let first = front_none types callee front in
    λ k. first k ++ call k ++ new k

call_fine : (m : Module) → Clean m → (f : Function) (b : Name) (tail_word : TailWord) (ret : Ty) (callee : Value) (operands : List Typed) → in_kind (scope_of m f) b (Call tail_word ret callee operands) ≡ [] → in_kind (scope_of m f) b (kind_off (Call tail_word ret callee operands)) ≡ []
call_fine m c f b tail_word ret (GlobalValue x) operands e = by (bytes_eq x target_init) refl
  where
    by : (init : Bool) → bytes_eq x target_init ≡ init → in_kind (scope_of m f) b (Call tail_word ret (GlobalValue x) (if init then operands_off operands else operands)) ≡ []
    by true n = init_fine m c f b tail_word ret x operands n e
    by false n = e
call_fine m c f b tail_word ret (LocalValue x) operands e = e
call_fine m c f b tail_word ret (IntValue n) operands e = e
call_fine m c f b tail_word ret Null operands e = e

kind_fine : (m : Module) → Clean m → (f : Function) (b : Name) (k : Kind) → in_kind (scope_of m f) b k ≡ [] → in_kind (scope_of m f) b (kind_off k) ≡ []
kind_fine m c f b (Call tail_word ret callee operands) e = call_fine m c f b tail_word ret callee operands e
kind_fine m c f b _ e = e

-- ---- the module

same_type : (k : Kind) → result_type (kind_off k) ≡ result_type k
same_type (Call tail_word ret callee operands) = refl
same_type _ = refl

pub same_targets : (k : Kind) → targets_of (kind_off k) ≡ targets_of k
same_targets (Call tail_word ret callee operands) = refl
same_targets _ = refl

same_phi : (k : Kind) → is_phi (kind_off k) ≡ is_phi k
same_phi (Call tail_word ret callee operands) = refl
same_phi _ = refl

off_keeps : KeepsNames inst_off
off_keeps = record { line = λ i. refl; result = λ i. refl; ty = λ i. same_type i.kind; targets = λ i. same_targets i.kind; phi = λ i. same_phi i.kind }

result_same : (k l : Kind) (x : Option Name) → result_type k ≡ result_type l → in_result k x ≡ in_result l x
result_same k l None e = refl
result_same k l (Some x) e = ap (λ ty. expects (is_scalar ty)) e

off_rules : (m : Module) → Clean m → KeepsRules inst_off m
off_rules m c p f b i is get got e =
    let s = scope_of m f in
    let kind = kind_fine m c f b.name i.kind (front_none (in_kind s b.name i.kind) (in_result i.kind i.result) e) in
    let result = result_same (kind_off i.kind) i.kind i.result (same_type i.kind) ∙ back_none (in_kind s b.name i.kind) (in_result i.kind i.result) e in
    λ k. kind k ++ result k

pub off_keeps_names : (m : Module) → name_refusals m ≡ [] → name_refusals (machine_off m) ≡ []
off_keeps_names m e = edits_keep_names inst_off off_keeps m (off_rules m (clean m e)) e
