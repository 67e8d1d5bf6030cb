-- Where nothing is refused of the names and types of a module, its init calls have three operands, of which the last is switched off.
use Rattle.std.proofs.Common.{◌≡◌, suc, List, [], ◌∷◌, ◌++◌, length, map, Bool, true, false, ◌&&◌, Option, Some, None, arith, refl, sym, ap, ◌∙◌, if◌then◌else◌}
use Rattle.std.specs.Prelude.{slice_get}
use Rattle.std.specs.List.{flat_map, list_all}
use Rattle.std.specs.Str.{bytes_eq}
use Rattle.std.proofs.lemmas.Bool.{and_parts}
use Rattle.std.proofs.lemmas.List.Folds.{list_all-append}
use Rattle.std.proofs.lemmas.Slice.Eq.{bytes_eq-Decides}
use Rattle.ir_core.specs.declared.types.Ty.{Ty}
use Rattle.ir_core.specs.declared.instructions.Value.TheVariants.{Int as IntValue, Null, Local as LocalValue, Global as GlobalValue}
use Rattle.ir_core.specs.declared.instructions.Typed.{Typed}
use Rattle.ir_core.specs.declared.instructions.Kind.{Kind}
use Rattle.ir_core.specs.declared.instructions.Kind.TheVariants.{Call}
use Rattle.ir_core.specs.declared.instructions.Inst.{Inst}
use Rattle.ir_core.specs.declared.module.Module.{Module}
use Rattle.ir_core.specs.declared.module.Function.{Function}
use Rattle.ir_core.specs.declared.module.Block.{Block}
use Rattle.ir_core.specs.declared.module.Param.{Param}
use Rattle.ir_core.specs.declared.rtl.Rtl.TheVariants.{TargetInit}
use Rattle.ir_core.specs.EntryPoints.{target_init}
use Rattle.ir_core.specs.FirstForm.{is_number, same_scalar}
use Rattle.ir_core.specs.Places.{Name}
use Rattle.ir_core.specs.Given.{Symbol, Variable, Routine, symbol_given, local_names}
use Rattle.ir_core.specs.Typing.{scope_of, expects, in_type, operand_in, same_result, are_arguments, if_declared, if_unknown, if_output, calls_symbol, is_fork, in_kind, in_result, in_inst}
use Rattle.ir_core.specs.NameRefusals.{at, are_declared, in_heading, repeated, is_phi, in_order, of_insts, of_block, of_function, name_refusals}
use Rattle.ir_core.specs.MachineOff.{operands_off, kind_off, inst_off, machine_off}
use Rattle.shapes.specs.Insts.{block_insts}
use Rattle.shapes.specs.Facts.{insts_of, calls, is_call_of, operands_of, operand_of, is_constant}
use Rattle.shapes.specs.KernelShape.{is_generic_init, kernel_refusals}
use Rattle.accepted_laws.proofs.Nothing.{not_both, front_none, back_none, nothing_at, holds, something, both_hold}
use Rattle.accepted_laws.proofs.Clean.{Clean, clean, clean_function}
use Rattle.out_modules.specs.OutputKernels.{is_switched_off_init, kernel_refusals_by}
use Rattle.output_laws.proofs.InitCalls.{found, first_found, init_params, init_declared}
use Rattle.output_laws.proofs.NumberFlags.{is_flagged, are_flagged, module_flagged}
use Rattle.output_laws.proofs.OffKernels.{kernels_off}
use Rattle.output_laws.proofs.OutputKernels.{kernels_generic}

-- ---- three operands

abbrev are_three : List Typed → Bool
are_three (a ∷ b ∷ c ∷ []) = true
are_three _ = false

are_three_of : (vs : List Typed) → 3 ≡ length vs → are_three vs ≡ true
are_three_of [] e = absurd (omega (arith, e))
are_three_of (a ∷ []) e = absurd (omega (arith, e))
are_three_of (a ∷ b ∷ []) e = absurd (omega (arith, e))
are_three_of (a ∷ b ∷ c ∷ []) e = refl
are_three_of (a ∷ b ∷ c ∷ d ∷ vs) e = absurd (omega (arith, e))

as_many_params : (tys : List Ty) (ps : List Param) → are_declared tys ps ≡ true → length tys ≡ length ps
as_many_params [] [] e = refl
as_many_params (ty ∷ tys) (p ∷ ps) e = ap suc (as_many_params tys ps (and_parts (same_scalar ty p.ty) (are_declared tys ps) e).1)
as_many_params [] (p ∷ ps) e = not_both false e refl
as_many_params (ty ∷ tys) [] e = not_both false e refl

as_many_operands : (ps : List Param) (vs : List Typed) → are_arguments ps vs ≡ true → length ps ≡ length vs
as_many_operands [] [] e = refl
as_many_operands (p ∷ ps) (v ∷ vs) e = ap suc (as_many_operands ps vs (and_parts (same_scalar p.ty v.ty) (are_arguments ps vs) e).1)
as_many_operands [] (v ∷ vs) e = not_both false e refl
as_many_operands (p ∷ ps) [] e = not_both false e refl

-- ---- init calls of which nothing is refused

call_of_three : (m : Module) → Clean m → (x : Name) (ret : Ty) (operands : List Typed) → bytes_eq x target_init ≡ true → (o : Option Symbol) → symbol_given m x ≡ o → calls_symbol x ret operands o ≡ [] → are_three operands ≡ true
call_of_three m c x ret operands n None is e = something _ _ e
call_of_three m c x ret operands n (Some Variable) is e = something _ _ e
call_of_three m c x ret operands n (Some (Routine f)) is e =
    let at = found (λ (f : Function). bytes_eq f.name x) m.functions f (first_found _ _ f is) in
    let name : f.name ≡ target_init = (bytes_eq-Decides f.name x).0 at.2 ∙ (bytes_eq-Decides x target_init).0 n in
    let typed = expects (same_result f.ret ret && are_arguments f.params operands) in
    let known = if_declared f.blocks (if_unknown x) in
    let fits = holds _ (front_none typed known (front_none (typed ++ known) (if_output x) e)) in
    let params = as_many_params init_params f.params (init_declared m f name (clean_function m c at.0 f at.1).heading) in
    are_three_of operands (params ∙ as_many_operands f.params operands (and_parts (same_result f.ret ret) (are_arguments f.params operands) fits).1)

abbrev pub has_three : Kind → Bool
has_three k = if calls TargetInit k then are_three (operands_of k) else true

abbrev pub takes_three : Inst → Bool
takes_three i = has_three i.kind

kind_of_three : (m : Module) → Clean m → (f : Function) (b : Name) (k : Kind) → in_kind (scope_of m f) b k ≡ [] → has_three k ≡ true
kind_of_three m c f b (Call tail_word ret (GlobalValue x) operands) e = by (bytes_eq x target_init) refl
  where
    by : (init : Bool) → bytes_eq x target_init ≡ init → (if init then are_three operands else true) ≡ true
    by true n =
        let types = in_type m ret in
        let callee = calls_symbol x ret operands (symbol_given m x) in
        let values = flat_map (operand_in (is_fork (GlobalValue x)) (scope_of m f)) operands in
        call_of_three m c x ret operands n (symbol_given m x) refl (back_none types callee (front_none (types ++ callee) values e))
    by false n = refl
kind_of_three m c f b (Call tail_word ret (LocalValue x) operands) e = refl
kind_of_three m c f b (Call tail_word ret (IntValue n) operands) e = refl
kind_of_three m c f b (Call tail_word ret Null operands) e = refl
kind_of_three m c f b _ e = refl

insts_of_three : (m : Module) → Clean m → (f : Function) (b : Name) (only_phis : Bool) (is : List Inst) → of_insts (scope_of m f) b only_phis is ≡ [] → list_all takes_three is ≡ true
insts_of_three m c f b only_phis [] e = refl
insts_of_three m c f b only_phis (i ∷ is) e =
    let s = scope_of m f in
    let here = at i.line (in_inst s b i ++ in_order only_phis i.kind) in
    let rest = of_insts s b (only_phis && is_phi i.kind) is in
    let inst = front_none (in_inst s b i) (in_order only_phis i.kind) (nothing_at i.line (in_inst s b i ++ in_order only_phis i.kind) (front_none here rest e)) in
    both_hold _ _
    (kind_of_three m c f b i.kind (front_none (in_kind s b i.kind) (in_result i.kind i.result) inst))
    (insts_of_three m c f b (only_phis && is_phi i.kind) is (back_none here rest e))

blocks_of_three : (m : Module) → Clean m → (f : Function) (bs : List Block) → flat_map (of_block (scope_of m f)) bs ≡ [] → list_all takes_three (flat_map block_insts bs) ≡ true
blocks_of_three m c f [] e = refl
blocks_of_three m c f (b ∷ bs) e =
    let here = of_block (scope_of m f) b in
    let rest = flat_map (of_block (scope_of m f)) bs in
    list_all-append takes_three b.insts (flat_map block_insts bs)
    ∙ both_hold _ _ (insts_of_three m c f b.name true b.insts (front_none here rest e)) (blocks_of_three m c f bs (back_none here rest e))

-- ---- functions, whose init calls have three operands and a number as the flag

abbrev pub takes_flag : Inst → Bool
takes_flag i = is_flagged i && takes_three i

all_both : {X : Type 0} (one two : X → Bool) (xs : List X) → list_all one xs ≡ true → list_all two xs ≡ true → list_all (λ x. one x && two x) xs ≡ true
all_both one two [] e g = refl
all_both one two (x ∷ xs) e g =
    let first = and_parts (one x) (list_all one xs) e in
    let second = and_parts (two x) (list_all two xs) g in
    both_hold _ _ (both_hold (one x) (two x) first.0 second.0) (all_both one two xs first.1 second.1)

functions_flags : (m : Module) → Clean m → (fs : List Function) → flat_map (of_function m) fs ≡ [] → list_all are_flagged fs ≡ true → list_all (λ f. list_all takes_flag (insts_of f)) fs ≡ true
functions_flags m c [] e g = refl
functions_flags m c (f ∷ fs) e g =
    let parts = and_parts (are_flagged f) (list_all are_flagged fs) g in
    let rest = flat_map (of_function m) fs in
    let names = at f.line (in_heading m f) ++ repeated [] (map (λ n. (n.name, n.line)) (local_names f)) in
    let blocks = flat_map (of_block (scope_of m f)) f.blocks in
    let three = blocks_of_three m c f f.blocks (back_none names blocks (front_none (of_function m f) rest e)) in
    both_hold _ _ (all_both is_flagged takes_three (insts_of f) parts.0 three) (functions_flags m c fs (back_none (of_function m f) rest e) parts.1)

-- ---- the flag, switched off

abbrev is_off_call : List Typed → Bool
is_off_call vs = is_constant 1 (slice_get vs 1) && is_constant 0 (slice_get vs 2)

abbrev is_on_call : List Typed → Bool
is_on_call vs = is_constant 1 (slice_get vs 1) && is_constant 1 (slice_get vs 2)

operands_switched : (vs : List Typed) → are_three vs ≡ true → is_constant 1 (slice_get vs 2) ≡ true → is_off_call (operands_off vs) ≡ is_on_call vs
operands_switched (a ∷ b ∷ c ∷ []) t e = ap (λ z. is_number 1 b.value && z) (sym e)
operands_switched [] t e = not_both false t refl
operands_switched (a ∷ []) t e = not_both false t refl
operands_switched (a ∷ b ∷ []) t e = not_both false t refl
operands_switched (a ∷ b ∷ c ∷ d ∷ vs) t e = not_both false t refl

and_false : (b : Bool) → (b && false) ≡ false
and_false true = refl
and_false false = refl

operands_refused : (vs : List Typed) → are_three vs ≡ true → is_on_call (operands_off vs) ≡ false
operands_refused (a ∷ b ∷ c ∷ []) t = and_false (is_number 1 b.value)
operands_refused [] t = not_both false t refl
operands_refused (a ∷ []) t = not_both false t refl
operands_refused (a ∷ b ∷ []) t = not_both false t refl
operands_refused (a ∷ b ∷ c ∷ d ∷ vs) t = not_both false t refl

-- the operands of an init call are those of the old one with the flag off
init_operands : (k : Kind) → calls TargetInit k ≡ true → operands_of (kind_off k) ≡ operands_off (operands_of k)
init_operands (Call tail_word ret (GlobalValue x) operands) call = ap (λ b. if b then operands_off operands else operands) call
init_operands (Call tail_word ret (LocalValue x) operands) call = not_both false call refl
init_operands (Call tail_word ret (IntValue n) operands) call = not_both false call refl
init_operands (Call tail_word ret Null operands) call = not_both false call refl
init_operands _ call = let f : ⊥ = cc in absurd f

flag_of_init : (i : Inst) → is_call_of TargetInit i ≡ true → takes_flag i ≡ true → (is_constant 1 (operand_of i 2) ≡ true) × (are_three (operands_of i.kind) ≡ true)
flag_of_init i call e =
    let parts = and_parts (is_flagged i) (takes_three i) e in
    (sym (ap (λ b. if b then is_constant 1 (operand_of i 2) else true) call) ∙ parts.0, sym (ap (λ b. if b then are_three (operands_of i.kind) else true) call) ∙ parts.1)

inits_switched : (i : Inst) → is_call_of TargetInit i ≡ true → takes_flag i ≡ true → is_switched_off_init (inst_off i) ≡ is_generic_init i
inits_switched i call e = let flag = flag_of_init i call e in ap is_off_call (init_operands i.kind call) ∙ operands_switched (operands_of i.kind) flag.1 flag.0

inits_refused : (i : Inst) → is_call_of TargetInit i ≡ true → takes_flag i ≡ true → is_generic_init (inst_off i) ≡ false
inits_refused i call e = let flag = flag_of_init i call e in ap is_on_call (init_operands i.kind call) ∙ operands_refused (operands_of i.kind) flag.1

module_flags : (m : Module) → name_refusals m ≡ [] → kernel_refusals m ≡ [] → list_all (λ f. list_all takes_flag (insts_of f)) m.functions ≡ true
module_flags m n e = let c = clean m n in functions_flags m c m.functions c.functions (module_flagged m e)

-- the flag is 0 in each kernel
pub off_switches_kernels : (m : Module) → name_refusals m ≡ [] → kernel_refusals m ≡ [] → kernel_refusals_by is_switched_off_init (machine_off m) ≡ []
off_switches_kernels m n e = kernels_off is_generic_init is_switched_off_init takes_flag inits_switched m (module_flagged m e) (module_flags m n e) ∙ kernels_generic m ∙ e

-- as modules that are taken, all init calls and nothing else is refused
pub off_refuses_inits : (m : Module) → name_refusals m ≡ [] → kernel_refusals m ≡ [] → kernel_refusals (machine_off m) ≡ kernel_refusals_by (λ i. false) m
off_refuses_inits m n e = sym (kernels_generic (machine_off m)) ∙ kernels_off (λ i. false) is_generic_init takes_flag inits_refused m (module_flagged m e) (module_flags m n e)
