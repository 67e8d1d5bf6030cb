-- No kernel of an output asks for SPMD mode in its init call.
use Rattle.std.proofs.Common.{◌≡◌, ℕ, zero, suc, Bool, true, false, List, [], ◌∷◌, ◌++◌, flat_map, slice_get, Option, Some, None, refl, sym, ap, ◌∙◌, subst}
use Rattle.std.proofs.lemmas.Option.{none-some}
use Rattle.mem_model.proofs.Runs.{some_injective}
use Rattle.std.specs.Prelude.{◌||◌, ◌&&◌, not, if◌then◌else◌}
use Rattle.std.specs.List.{list_any}
use Rattle.std.proofs.lemmas.Slice.Eq.{bytes_eq-Decides}
use Rattle.ir_core.specs.declared.refusal.Refusal.{Refusal}
use Rattle.ir_core.specs.declared.instructions.Value.{Value}
use Rattle.ir_core.specs.declared.instructions.Value.TheVariants.{Global as GlobalValue}
use Rattle.ir_core.specs.declared.instructions.Typed.{Typed}
use Rattle.ir_core.specs.declared.instructions.Kind.{Kind}
use Rattle.ir_core.specs.declared.instructions.Kind.TheVariants.{Call}
use Rattle.ir_core.specs.declared.instructions.Inst.{Inst}
use Rattle.ir_core.specs.declared.module.Module.{Module}
use Rattle.ir_core.specs.declared.module.Function.{Function}
use Rattle.ir_core.specs.declared.module.Block.{Block}
use Rattle.ir_core.specs.declared.module.Param.{Param}
use Rattle.ir_core.specs.declared.rtl.Rtl.{Rtl}
use Rattle.ir_core.specs.declared.rtl.Rtl.TheVariants.{TargetInit}
use Rattle.ir_core.specs.FirstForm.{is_function}
use Rattle.ir_core.specs.Places.{Name, Place, inst_at, inst_in, block_in, function_place}
use Rattle.ir_core.specs.EntryPoints.{entry_name, entry_points}
use Rattle.ir_core.specs.declared.refusal.Construct.TheVariants.{SpmdInput}
use Rattle.shapes.specs.Facts.{rule, insts_of, calls, is_call_of, operands_of, operand_of, is_constant}
use Rattle.shapes.specs.Insts.{block_insts}
use Rattle.shapes.specs.KernelShape.{is_kernel, spmd_call, spmd_global, exec_mode, spmd_inputs, deinit_outside, of_modes, shaped}
use Rattle.accepted_laws.proofs.Nothing.{front_none, back_none, each_none}
use Rattle.out_modules.specs.OutputKernels.{is_output_init, of_generic_by, of_function_by, output_kernel_refusals}
use Rattle.mem_model.specs.Entries.{entry_of}
use Rattle.mem_model.specs.Next.{Callee, CallsEntry, CallsFunction, CallsOther, entry_or, with_body, defined_as, defined_at, callee_of}
use Rattle.thread_state.specs.Seen.{IsSpmdCall, IsSpmdKind}
use Rattle.interp_local.proofs.EntryNames.{is_named}

-- ---- what all items of a list of lists give

both_flat : {X Y : Type 0} (g : X → List Y) (before bs : List X) → flat_map g (before ++ bs) ≡ [] → (flat_map g before ≡ []) × (flat_map g bs ≡ [])
both_flat g [] bs e = (refl, e)
both_flat g (a ∷ before) bs e =
    let rest = both_flat g before bs (back_none (g a) (flat_map g (before ++ bs)) e) in
    (ap (λ ys. ys ++ flat_map g before) (front_none (g a) (flat_map g (before ++ bs)) e) ∙ rest.0, rest.1)

part_flat : {X Y Z : Type 0} (g : X → List Y) (h : Z → List X) (zs : List Z) (at : ℕ) (z : Z) → flat_map g (flat_map h zs) ≡ [] → slice_get zs at ≡ Some z → flat_map g (h z) ≡ []
part_flat g h [] at z e is = absurd (none-some z is)
part_flat g h (y ∷ ys) zero z e is = subst (λ w. flat_map g (h w) ≡ []) (some_injective is) (both_flat g (h y) (flat_map h ys) e).0
part_flat g h (y ∷ ys) (suc at) z e is = part_flat g h ys at z (both_flat g (h y) (flat_map h ys) e).1 is

one_any : {X : Type 0} (q : X → Bool) (a : X) (before bs : List X) (b : Bool) → q a ≡ b → (b || list_any q (before ++ bs)) ≡ false
    → (list_any q (before ++ bs) ≡ false → (list_any q before ≡ false) × (list_any q bs ≡ false)) → (list_any q (a ∷ before) ≡ false) × (list_any q bs ≡ false)
one_any q a before bs true is e later = let g : ⊥ = cc in absurd g
one_any q a before bs false is e later = let rest = later e in (ap (λ b. b || list_any q before) is ∙ rest.0, rest.1)

both_any : {X : Type 0} (q : X → Bool) (before bs : List X) → list_any q (before ++ bs) ≡ false → (list_any q before ≡ false) × (list_any q bs ≡ false)
both_any q [] bs e = (refl, e)
both_any q (a ∷ before) bs e = one_any q a before bs (q a) refl e (both_any q before bs)

part_any : {X Z : Type 0} (q : X → Bool) (h : Z → List X) (zs : List Z) (at : ℕ) (z : Z) → list_any q (flat_map h zs) ≡ false → slice_get zs at ≡ Some z → list_any q (h z) ≡ false
part_any q h [] at z e is = absurd (none-some z is)
part_any q h (y ∷ ys) zero z e is = subst (λ w. list_any q (h w) ≡ false) (some_injective is) (both_any q (h y) (flat_map h ys) e).0
part_any q h (y ∷ ys) (suc at) z e is = part_any q h ys at z (both_any q (h y) (flat_map h ys) e).1 is

none_any : {X : Type 0} (q : X → Bool) (xs : List X) (at : ℕ) (x : X) → list_any q xs ≡ false → slice_get xs at ≡ Some x → q x ≡ false
none_any q [] at x e is = absurd (none-some x is)
none_any q (y ∷ ys) zero x e is = subst (λ z. q z ≡ false) (some_injective is) (first (q y) e)
  where
    first : (b : Bool) → (b || list_any q ys) ≡ false → b ≡ false
    first true f = let g : ⊥ = cc in absurd g
    first false f = refl
none_any q (y ∷ ys) (suc at) x e is = none_any q ys at x (later (q y) e) is
  where
    later : (b : Bool) → (b || list_any q ys) ≡ false → list_any q ys ≡ false
    later true f = let g : ⊥ = cc in absurd g
    later false f = f

-- ---- an init call in SPMD mode

never_entry : (k : ℕ) (params : List Param) (bs : List Block) (r : Rtl) → with_body k params bs ≡ CallsEntry r → ⊥
never_entry k params [] r e = let f : ⊥ = cc in f
never_entry k params (b ∷ bs) r e = let f : ⊥ = cc in f

never_defined : (k : ℕ) (o : Option Function) (r : Rtl) → defined_as k o ≡ CallsEntry r → ⊥
never_defined k None r e = let f : ⊥ = cc in f
never_defined k (Some g) r e = never_entry k g.params g.blocks r e

never_at : (m : Module) (o : Option ℕ) (r : Rtl) → defined_at m o ≡ CallsEntry r → ⊥
never_at m None r e = let f : ⊥ = cc in f
never_at m (Some k) r e = never_defined k (slice_get m.functions k) r e

other_callee : (operands : List Typed) (c : Callee) → ((r : Rtl) → c ≡ CallsEntry r → ⊥) → IsSpmdCall operands c → ⊥
other_callee operands (CallsEntry r) never is = never r refl
other_callee operands (CallsFunction k params) never is = is
other_callee operands CallsOther never is = is

named_spmd : (m : Module) (operands : List Typed) (x : Name) (o : Option Rtl) → entry_of x ≡ o → IsSpmdCall operands (entry_or o (defined_at m (function_place m x))) → (is_function (entry_name TargetInit) (GlobalValue x) ≡ true) × (is_constant 2 (slice_get operands 1) ≡ true)
named_spmd m operands x None e is = absurd (other_callee operands (defined_at m (function_place m x)) (never_at m (function_place m x)) is)
named_spmd m operands x (Some TargetInit) e is = ((bytes_eq-Decides x (entry_name TargetInit)).1 (sym (is_named entry_points x TargetInit e)), is)
named_spmd m operands x (Some _) e is = absurd is

kind_spmd : (m : Module) (k : Kind) → IsSpmdKind m k → (calls TargetInit k ≡ true) × (is_constant 2 (slice_get (operands_of k) 1) ≡ true)
kind_spmd m (Call tail_word ret (GlobalValue x) operands) is = named_spmd m operands x (entry_of x) refl is
kind_spmd m (Call tail_word ret _ operands) is = absurd is
kind_spmd m _ is = absurd is

-- ---- no kernel of an output has one

spmd_refused : (i : Inst) → calls TargetInit i.kind ≡ true → is_constant 2 (slice_get (operands_of i.kind) 1) ≡ true → spmd_call i ≡ [] → ⊥
spmd_refused i calls_it asks none = by (is_call_of TargetInit i) (is_constant 2 (operand_of i 1)) calls_it asks none
  where
    by : (a b : Bool) → a ≡ true → b ≡ true → rule SpmdInput (not (a && b)) i.line ≡ [] → ⊥
    by true true p q e = let f : ⊥ = cc in f
    by false b p q e = let f : ⊥ = cc in f
    by true false p q e = let f : ⊥ = cc in f

generic_alone : (rs generic : List Refusal) → of_modes rs generic ≡ [] → rs ≡ []
generic_alone [] generic e = refl
generic_alone (r ∷ rs) generic e = let f : ⊥ = cc in absurd f

function_alone : (m : Module) (f : Function) (p q : ℕ) (b : Block) (i : Inst) → of_function_by is_output_init m f ≡ [] → slice_get f.blocks p ≡ Some b → slice_get b.insts q ≡ Some i → IsSpmdKind m i.kind → ⊥
function_alone m f p q b i none block inst is = by (is_kernel f) refl none
  where
    spmd : (calls TargetInit i.kind ≡ true) × (is_constant 2 (slice_get (operands_of i.kind) 1) ≡ true)
    spmd = kind_spmd m i.kind is

    by : (k : Bool) → is_kernel f ≡ k → (if k then of_modes (spmd_inputs m f) (of_generic_by is_output_init m f) else flat_map deinit_outside (insts_of f)) ≡ [] → ⊥
    by true kernel e =
        let calls_none = front_none (flat_map spmd_call (insts_of f)) (spmd_global (exec_mode m f)) (generic_alone (spmd_inputs m f) (of_generic_by is_output_init m f) e) in
        spmd_refused i spmd.0 spmd.1 (each_none spmd_call b.insts q i (part_flat spmd_call block_insts f.blocks p b calls_none block) inst)
    by false kernel e =
        let never = none_any (is_call_of TargetInit) b.insts q i (part_any (is_call_of TargetInit) block_insts f.blocks p b kernel block) inst in
        let both : false ≡ true = sym never ∙ spmd.0 in
        let none_left : ⊥ = cc in none_left

pub output_generic : (m : Module) → output_kernel_refusals m ≡ [] → (p : Place) (i : Inst) → inst_at m p ≡ Some i → IsSpmdKind m i.kind → ⊥
output_generic m none p i is spmd = by_function (slice_get m.functions p.function) refl is
  where
    all : flat_map (of_function_by is_output_init m) m.functions ≡ []
    all = back_none (shaped (list_any is_kernel m.functions) 1) _ none

    by_block : (f : Function) → of_function_by is_output_init m f ≡ [] → (o : Option Block) → slice_get f.blocks p.block ≡ o → inst_in o p.index ≡ Some i → ⊥
    by_block f none None e h = none-some i h
    by_block f none (Some b) e h = function_alone m f p.block p.index b i none e h spmd

    by_function : (o : Option Function) → slice_get m.functions p.function ≡ o → inst_in (block_in o p.block) p.index ≡ Some i → ⊥
    by_function None e h = none-some i h
    by_function (Some f) e h = by_block f (each_none (of_function_by is_output_init m) m.functions p.function f all e) (slice_get f.blocks p.block) refl h
