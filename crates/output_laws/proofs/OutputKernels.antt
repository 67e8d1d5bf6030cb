-- What is refused of the kernels of a module that the optimiser gives.
use Rattle.std.proofs.Common.{◌≡◌, ℕ, List, [], ◌∷◌, ◌++◌, Bool, true, false, ◌&&◌, Option, Some, None, refl, sym, ap, ◌∙◌, if◌then◌else◌}
use Rattle.std.specs.Prelude.{slice_get}
use Rattle.std.specs.List.{flat_map, list_any}
use Rattle.ir_core.specs.declared.instructions.Value.TheVariants.{Int as IntValue, Null, Local as LocalValue, Global as GlobalValue}
use Rattle.ir_core.specs.declared.instructions.Typed.{Typed}
use Rattle.ir_core.specs.declared.instructions.Kind.{Kind}
use Rattle.ir_core.specs.declared.instructions.Kind.TheVariants.{Call}
use Rattle.ir_core.specs.declared.instructions.Inst.{Inst}
use Rattle.ir_core.specs.declared.module.Module.{Module}
use Rattle.ir_core.specs.declared.module.Function.{Function}
use Rattle.ir_core.specs.declared.refusal.Refusal.{Refusal}
use Rattle.ir_core.specs.declared.rtl.Rtl.TheVariants.{TargetInit}
use Rattle.ir_core.specs.FirstForm.{is_number}
use Rattle.ir_core.specs.MachineOff.{operands_off, kind_off, inst_off, machine_off}
use Rattle.shapes.specs.Facts.{insts_of, first_insts, calls, is_call_of, operands_of, operand_of, is_constant}
use Rattle.shapes.specs.KernelShape.{shaped, is_kernel, spmd_inputs, has_heading, exec_mode, of_exec_mode, Opening, opening, of_opener, is_generic_init, of_behind, of_opening, kernel_ways, of_exit, of_block, of_modes, deinit_outside, of_function, kernel_refusals}
use Rattle.accepted_laws.proofs.Nothing.{front_none, back_none}
use Rattle.out_modules.specs.OutputKernels.{is_switched_off_init, is_output_init, of_opening_by, of_code_by, of_generic_by, of_function_by, kernel_refusals_by, output_kernel_refusals}
use Rattle.output_laws.proofs.NumberFlags.{is_flagged, module_flagged, shape_holds}
use Rattle.output_laws.proofs.OffKernels.{kernels_off}

-- ---- the rules of the modules that are taken

opening_generic : (line : ℕ) (insts : List Inst) (o : Option Opening) → of_opening_by is_generic_init line insts o ≡ of_opening line insts o
opening_generic line insts None = refl
opening_generic line insts (Some o) = refl

function_generic : (m : Module) (f : Function) → of_function_by is_generic_init m f ≡ of_function m f
function_generic m f =
    let first = opening_generic f.line (first_insts f.blocks) (opening (first_insts f.blocks)) in
    λ k. if is_kernel f then of_modes (spmd_inputs m f) (of_exec_mode m (exec_mode m f) ++ (shaped (has_heading m f) f.line ++ first k ++ of_exit f (kernel_ways f) ++ flat_map (of_block (kernel_ways f)) f.blocks)) else flat_map deinit_outside (insts_of f)

functions_generic : (m : Module) (fs : List Function) → flat_map (of_function_by is_generic_init m) fs ≡ flat_map (of_function m) fs
functions_generic m [] = refl
functions_generic m (f ∷ fs) = let more = functions_generic m fs in λ k. function_generic m f k ++ more k

pub kernels_generic : (m : Module) → kernel_refusals_by is_generic_init m ≡ kernel_refusals m
kernels_generic m = ap (λ rs. shaped (list_any is_kernel m.functions) 1 ++ rs) (functions_generic m m.functions)

-- ---- a test that more init calls pass

both_none : {A : Type 0} (xs ys : List A) → xs ≡ [] → ys ≡ [] → xs ++ ys ≡ []
both_none xs ys e f = λ k. e k ++ f k

modes_none : (spmd old new : List Refusal) → (old ≡ [] → new ≡ []) → of_modes spmd old ≡ [] → of_modes spmd new ≡ []
modes_none [] old new more e = more e
modes_none (r ∷ rs) old new more e = e

module _ (test wide : Inst → Bool) (passes : (i : Inst) → test i ≡ true → wide i ≡ true) where
  opening_wide : (line : ℕ) (insts : List Inst) (o : Option Opening) → of_opening_by test line insts o ≡ [] → of_opening_by wide line insts o ≡ []
  opening_wide line insts None e = e
  opening_wide line insts (Some o) e =
      let before = flat_map (of_opener insts) o.before in
      let init = shaped (test o.init) o.init.line in
      let behind = of_behind line o.init.result o.behind in
      let front = front_none (before ++ init) behind e in
      let holds = passes o.init (shape_holds (test o.init) o.init.line (back_none before init front)) in
      let before_none = front_none before init front in
      let behind_none = back_none (before ++ init) behind e in
      λ k. before_none k ++ shaped (holds k) o.init.line ++ behind_none k

  code_wide : (m : Module) (f : Function) → of_code_by test m f ≡ [] → of_code_by wide m f ≡ []
  code_wide m f e =
      let heading = shaped (has_heading m f) f.line in
      let first = of_opening_by test f.line (first_insts f.blocks) (opening (first_insts f.blocks)) in
      let exit = of_exit f (kernel_ways f) in
      let blocks = flat_map (of_block (kernel_ways f)) f.blocks in
      let front = front_none (heading ++ first ++ exit) blocks e in
      let fronts = front_none (heading ++ first) exit front in
      let heading_none = front_none heading first fronts in
      let first_none = opening_wide f.line (first_insts f.blocks) (opening (first_insts f.blocks)) (back_none heading first fronts) in
      let exit_none = back_none (heading ++ first) exit front in
      let blocks_none = back_none (heading ++ first ++ exit) blocks e in
      λ k. heading_none k ++ first_none k ++ exit_none k ++ blocks_none k

  function_wide : (m : Module) (f : Function) → of_function_by test m f ≡ [] → of_function_by wide m f ≡ []
  function_wide m f e = by (is_kernel f) e
    where
      generic : of_generic_by test m f ≡ [] → of_generic_by wide m f ≡ []
      generic e =
          both_none (of_exec_mode m (exec_mode m f)) (of_code_by wide m f)
          (front_none (of_exec_mode m (exec_mode m f)) (of_code_by test m f) e)
          (code_wide m f (back_none (of_exec_mode m (exec_mode m f)) (of_code_by test m f) e))

      by : (b : Bool) → (if b then of_modes (spmd_inputs m f) (of_generic_by test m f) else flat_map deinit_outside (insts_of f)) ≡ [] → (if b then of_modes (spmd_inputs m f) (of_generic_by wide m f) else flat_map deinit_outside (insts_of f)) ≡ []
      by true e = modes_none (spmd_inputs m f) (of_generic_by test m f) (of_generic_by wide m f) generic e
      by false e = e

  functions_wide : (m : Module) (fs : List Function) → flat_map (of_function_by test m) fs ≡ [] → flat_map (of_function_by wide m) fs ≡ []
  functions_wide m [] e = refl
  functions_wide m (f ∷ fs) e =
      both_none (of_function_by wide m f) (flat_map (of_function_by wide m) fs)
      (function_wide m f (front_none (of_function_by test m f) (flat_map (of_function_by test m) fs) e))
      (functions_wide m fs (back_none (of_function_by test m f) (flat_map (of_function_by test m) fs) e))

  pub kernels_wide : (m : Module) → kernel_refusals_by test m ≡ [] → kernel_refusals_by wide m ≡ []
  kernels_wide m e =
      let kernels = shaped (list_any is_kernel m.functions) 1 in
      both_none kernels (flat_map (of_function_by wide m) m.functions)
      (front_none kernels (flat_map (of_function_by test m) m.functions) e)
      (functions_wide m m.functions (back_none kernels (flat_map (of_function_by test m) m.functions) e))

-- ---- modules that are given

-- a kernel that is taken has the shape of one that is given
pub output_kernels : (m : Module) → kernel_refusals m ≡ [] → output_kernel_refusals m ≡ []
output_kernels m e = kernels_wide is_generic_init is_output_init (λ i holds. ap (λ b. if b then true else is_switched_off_init i) holds) m (kernels_generic m ∙ e)

-- 0 and 1 both pass as a flag
either_flag : (mode one zero_ : Bool) → one ≡ true → (if mode && false then true else (mode && true)) ≡ (if mode && one then true else (mode && zero_))
either_flag true one zero_ e = ap (λ b. if b then true else zero_) (sym e)
either_flag false one zero_ e = refl

-- the test on the operands of an init call
abbrev is_output_call : List Typed → Bool
is_output_call vs = if is_constant 1 (slice_get vs 1) && is_constant 1 (slice_get vs 2) then true else (is_constant 1 (slice_get vs 1) && is_constant 0 (slice_get vs 2))

operands_pass : (vs : List Typed) → is_constant 1 (slice_get vs 2) ≡ true → is_output_call (operands_off vs) ≡ is_output_call vs
operands_pass [] e = refl
operands_pass (a ∷ []) e = refl
operands_pass (a ∷ b ∷ []) e = refl
operands_pass (a ∷ b ∷ c ∷ []) e = either_flag (is_number 1 b.value) (is_number 1 c.value) (is_number 0 c.value) e
operands_pass (a ∷ b ∷ c ∷ d ∷ vs) e = refl

calls_pass : (k : Kind) → calls TargetInit k ≡ true → is_constant 1 (slice_get (operands_of k) 2) ≡ true → is_output_call (operands_of (kind_off k)) ≡ is_output_call (operands_of k)
calls_pass (Call tail_word ret (GlobalValue x) operands) call e = ap (λ b. is_output_call (if b then operands_off operands else operands)) call ∙ operands_pass operands e
calls_pass (Call tail_word ret (LocalValue x) operands) call e = refl
calls_pass (Call tail_word ret (IntValue n) operands) call e = refl
calls_pass (Call tail_word ret Null operands) call e = refl
calls_pass _ call e = refl

inits_pass : (i : Inst) → is_call_of TargetInit i ≡ true → is_flagged i ≡ true → is_output_init (inst_off i) ≡ is_output_init i
inits_pass i call e = calls_pass i.kind call (sym (ap (λ b. if b then is_constant 1 (operand_of i 2) else true) call) ∙ e)

-- and so has one whose machine is switched off
pub off_keeps_kernels : (m : Module) → kernel_refusals m ≡ [] → output_kernel_refusals (machine_off m) ≡ []
off_keeps_kernels m e = kernels_off is_output_init is_output_init is_flagged inits_pass m (module_flagged m e) (module_flagged m e) ∙ output_kernels m e
