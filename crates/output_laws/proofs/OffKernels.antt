-- What of the shape of kernels stays where the machine is switched off: all but the flag of the init call.
use Rattle.std.proofs.Common.{◌≡◌, suc, List, [], ◌∷◌, ◌++◌, length, drop, map, Bool, true, false, not, cond, ◌||◌, ◌&&◌, ◌==◌, Option, Some, None, option_map, refl, sym, ap, ◌∙◌, if◌then◌else◌}
use Rattle.std.specs.List.{flat_map, filter, find, list_all, list_any}
use Rattle.std.specs.Str.{bytes_eq}
use Rattle.std.proofs.lemmas.Bool.{and_parts}
use Rattle.std.proofs.lemmas.List.Folds.{list_all-append}
use Rattle.ir_core.specs.declared.instructions.Kind.{Kind}
use Rattle.ir_core.specs.declared.instructions.Kind.TheVariants.{Call}
use Rattle.ir_core.specs.declared.instructions.Inst.{Inst}
use Rattle.ir_core.specs.declared.module.Module.{Module}
use Rattle.ir_core.specs.declared.module.Function.{Function}
use Rattle.ir_core.specs.declared.module.Global.{Global}
use Rattle.ir_core.specs.declared.module.Block.{Block}
use Rattle.ir_core.specs.declared.refusal.Construct.TheVariants.{SpmdInput}
use Rattle.ir_core.specs.declared.rtl.Rtl.TheVariants.{TargetInit, TargetDeinit}
use Rattle.ir_core.specs.FirstForm.{is_int_of, is_void, is_return_kind, no_result, is_exit}
use Rattle.ir_core.specs.MachineOff.{kind_off, inst_off, block_off, function_off, machine_off}
use Rattle.ir_core.specs.Places.{Name}
use Rattle.ir_core.specs.Typing.{targets_of}
use Rattle.ir_core.specs.Wrappers.{callees, is_in}
use Rattle.shapes.specs.Insts.{block_insts}
use Rattle.shapes.specs.Facts.{rule, insts_of, insts_in, first_insts, is_call_of, is_constant}
use Rattle.shapes.specs.Uses.{names_called, names_forked, fork_names}
use Rattle.shapes.specs.KernelShape.{shaped, is_kernel, exec_mode, holds_number, spmd_call, spmd_global, spmd_inputs, has_heading, of_exec_mode, Ways, kernel_ways, branches_to, of_exit_block, of_exit, is_exit_name, returns, is_deinit, returns_next, of_ends, of_block, of_modes, deinit_outside}
use Rattle.out_modules.specs.OutputKernels.{of_code_by, of_function_by, kernel_refusals_by}
use Rattle.output_laws.proofs.InitCalls.{same_targets}
use Rattle.output_laws.proofs.NumberFlags.{are_flagged}
use Rattle.output_laws.proofs.OffNames.{flat_where, names_used_off}
use Rattle.output_laws.proofs.OffOpenings.{any_off, first_block_off, kernel_ways_off}
use Rattle.output_laws.proofs.OffPaths.{callees_off, fork_names_off, is_kernel_off}
use Rattle.output_laws.proofs.SwitchedOff.{flat_same, insts_of_off, insts_in_off, is_call_off, operand_off}

-- ---- the heading

names_called_off : (m : Module) → names_called (machine_off m) ≡ names_called m
names_called_off m = flat_same callees callees function_off callees_off m.functions

names_forked_off : (m : Module) → names_forked (machine_off m) ≡ names_forked m
names_forked_off m = ap (flat_map fork_names) (insts_in_off m) ∙ flat_same fork_names fork_names inst_off fork_names_off (insts_in m)

as_many_inits : (is : List Inst) → length (filter (is_call_of TargetInit) (map inst_off is)) ≡ length (filter (is_call_of TargetInit) is)
as_many_inits [] = refl
as_many_inits (i ∷ is) = ap (λ b. length (cond b (inst_off i ∷ filter (is_call_of TargetInit) (map inst_off is)) (filter (is_call_of TargetInit) (map inst_off is)))) (is_call_off TargetInit i) ∙ by (is_call_of TargetInit i) (as_many_inits is)
  where
    by : (b : Bool) → length (filter (is_call_of TargetInit) (map inst_off is)) ≡ length (filter (is_call_of TargetInit) is) → length (cond b (inst_off i ∷ filter (is_call_of TargetInit) (map inst_off is)) (filter (is_call_of TargetInit) (map inst_off is))) ≡ length (cond b (i ∷ filter (is_call_of TargetInit) is) (filter (is_call_of TargetInit) is))
    by true more = ap (λ n. suc n) more
    by false more = more

pub heading_off : (m : Module) (f : Function) → has_heading (machine_off m) (function_off f) ≡ has_heading m f
heading_off m f =
    let called = names_called_off m in
    let regions = names_forked_off m in
    let inits = ap (λ is. length (filter (is_call_of TargetInit) is)) (insts_of_off f) ∙ as_many_inits (insts_of f) in
    λ k. is_void f.ret && not (is_in (called k) f.name) && not (is_in (regions k) f.name) && (inits k == 1)

-- ---- the mode

pub exec_mode_off : (m : Module) (f : Function) → exec_mode (machine_off m) (function_off f) ≡ exec_mode m f
exec_mode_off m f = refl

pub exec_mode_rules_off : (m : Module) → list_all are_flagged m.functions ≡ true → (o : Option Global) → of_exec_mode (machine_off m) o ≡ of_exec_mode m o
exec_mode_rules_off m e None = refl
exec_mode_rules_off m e (Some g) = ap (λ names. shaped (is_int_of 8 g.ty && g.constant && holds_number 1 g.init && not (is_in names g.name)) g.line) (names_used_off m e)

spmd_call_off : (i : Inst) → spmd_call (inst_off i) ≡ spmd_call i
spmd_call_off i =
    let call = is_call_off TargetInit i in
    let mode = operand_off i 1 refl in
    λ k. rule SpmdInput (not (call k && is_constant 2 (mode k))) i.line

pub spmd_inputs_off : (m : Module) (f : Function) → spmd_inputs (machine_off m) (function_off f) ≡ spmd_inputs m f
spmd_inputs_off m f =
    let insts = ap (flat_map spmd_call) (insts_of_off f) ∙ flat_same spmd_call spmd_call inst_off spmd_call_off (insts_of f) in
    ap (λ spmd. spmd ++ spmd_global (exec_mode m f)) insts

-- ---- the exit

return_off : (k : Kind) → is_return_kind (kind_off k) ≡ is_return_kind k
return_off (Call tail_word ret callee operands) = refl
return_off _ = refl

is_exit_off : (is : List Inst) → is_exit (map inst_off is) ≡ is_exit is
is_exit_off [] = refl
is_exit_off (i ∷ []) = ap (λ b. no_result i.result && b) (return_off i.kind)
is_exit_off (i ∷ j ∷ is) = refl

branches_to_off : (x : Name) (b : Block) → branches_to x (block_off b) ≡ branches_to x b
branches_to_off x b = any_off (λ i. is_in (targets_of i.kind) x) (λ i. is_in (targets_of i.kind) x) (λ i. ap (λ names. is_in names x) (same_targets i.kind)) b.insts

any_branches : (x : Name) (bs : List Block) → list_any (branches_to x) (map block_off bs) ≡ list_any (branches_to x) bs
any_branches x [] = refl
any_branches x (b ∷ bs) = let more = any_branches x bs in λ k. branches_to_off x b k || more k

-- the blocks but the first
later_branches : (x : Name) (bs : List Block) → list_any (branches_to x) (drop 1 (map block_off bs)) ≡ list_any (branches_to x) (drop 1 bs)
later_branches x [] = refl
later_branches x (b ∷ bs) = any_branches x bs

exit_block_off : (f : Function) (o : Option Block) → of_exit_block (function_off f) (option_map block_off o) ≡ of_exit_block f o
exit_block_off f None = refl
exit_block_off f (Some b) =
    let exit = is_exit_off b.insts in
    let branches = later_branches b.name f.blocks in
    λ k. shaped (exit k && not (branches k)) b.line

block_found : (x : Name) (bs : List Block) → find (λ b. bytes_eq b.name x) (map block_off bs) ≡ option_map block_off (find (λ b. bytes_eq b.name x) bs)
block_found x [] = refl
block_found x (b ∷ bs) = by (bytes_eq b.name x) (block_found x bs)
  where
    by : (c : Bool) → find (λ b. bytes_eq b.name x) (map block_off bs) ≡ option_map block_off (find (λ b. bytes_eq b.name x) bs) → cond c (Some (block_off b)) (find (λ b. bytes_eq b.name x) (map block_off bs)) ≡ option_map block_off (cond c (Some b) (find (λ b. bytes_eq b.name x) bs))
    by true more = refl
    by false more = more

pub exit_off : (f : Function) (w : Option Ways) → of_exit (function_off f) w ≡ of_exit f w
exit_off f None = refl
exit_off f (Some w) = ap (of_exit_block (function_off f)) (block_found w.exit f.blocks) ∙ exit_block_off f (find (λ b. bytes_eq b.name w.exit) f.blocks)

-- ---- the ends of the user code

returns_off : (k : Kind) → returns (kind_off k) ≡ returns k
returns_off (Call tail_word ret callee operands) = refl
returns_off _ = refl

is_deinit_off : (o : Option Inst) → is_deinit (option_map inst_off o) ≡ is_deinit o
is_deinit_off None = refl
is_deinit_off (Some i) =
    let call = is_call_off TargetDeinit i in
    let mode = operand_off i 1 refl in
    λ k. call k && is_constant 1 (mode k)

returns_next_off : (is : List Inst) → returns_next (map inst_off is) ≡ returns_next is
returns_next_off [] = refl
returns_next_off (i ∷ is) = returns_off i.kind

ends_off : (free : Bool) (before : Option Inst) (is : List Inst) → of_ends free (option_map inst_off before) (map inst_off is) ≡ of_ends free before is
ends_off free before [] = refl
ends_off free before (i ∷ is) =
    let ends = returns_off i.kind in
    let behind = is_deinit_off before in
    let call = is_call_off TargetDeinit i in
    let mode = operand_off i 1 refl in
    let next = returns_next_off is in
    let more = ends_off free (Some i) is in
    λ k. (if ends k then shaped (if free then true else behind k) i.line else []) ++ (if call k then shaped (is_constant 1 (mode k) && next k) i.line else []) ++ more k

pub block_ends_off : (w : Option Ways) (b : Block) → of_block w (block_off b) ≡ of_block w b
block_ends_off w b = ends_off (is_exit_name w b.name) None b.insts

deinit_outside_off : (i : Inst) → deinit_outside (inst_off i) ≡ deinit_outside i
deinit_outside_off i = ap (λ b. shaped (not b) i.line) (is_call_off TargetDeinit i)

-- ---- the whole

-- the instructions of the first block
first_plain : (plain : Inst → Bool) (bs : List Block) → list_all plain (flat_map block_insts bs) ≡ true → list_all plain (first_insts bs) ≡ true
first_plain plain [] e = refl
first_plain plain (b ∷ bs) e = (and_parts (list_all plain b.insts) (list_all plain (flat_map block_insts bs)) (sym (list_all-append plain b.insts (flat_map block_insts bs)) ∙ e)).0

any_kernel : (fs : List Function) → list_any is_kernel (map function_off fs) ≡ list_any is_kernel fs
any_kernel [] = refl
any_kernel (f ∷ fs) = let more = any_kernel fs in λ k. is_kernel_off f k || more k

module _ (test new plain : Inst → Bool) (same : (i : Inst) → is_call_of TargetInit i ≡ true → plain i ≡ true → new (inst_off i) ≡ test i) where
  code_off : (m : Module) (f : Function) → list_all plain (insts_of f) ≡ true → of_code_by new (machine_off m) (function_off f) ≡ of_code_by test m f
  code_off m f e =
      let heading = heading_off m f in
      let first = first_block_off test new plain same f.line f.blocks (first_plain plain f.blocks e) in
      let ways = kernel_ways_off f in
      let exit = ap (of_exit (function_off f)) ways ∙ exit_off f (kernel_ways f) in
      let ends = ap (λ (w : Option Ways). flat_map (of_block w) (map block_off f.blocks)) ways ∙ flat_same (of_block (kernel_ways f)) (of_block (kernel_ways f)) block_off (block_ends_off (kernel_ways f)) f.blocks in
      λ k. shaped (heading k) f.line ++ first k ++ exit k ++ ends k

  function_rules_off : (m : Module) → list_all are_flagged m.functions ≡ true → (f : Function) → list_all plain (insts_of f) ≡ true → of_function_by new (machine_off m) (function_off f) ≡ of_function_by test m f
  function_rules_off m flags f e =
      let kernel = is_kernel_off f in
      let spmd = spmd_inputs_off m f in
      let mode = exec_mode_rules_off m flags (exec_mode m f) in
      let code = code_off m f e in
      let outside = ap (flat_map deinit_outside) (insts_of_off f) ∙ flat_same deinit_outside deinit_outside inst_off deinit_outside_off (insts_of f) in
      λ k. if kernel k then of_modes (spmd k) (mode k ++ code k) else outside k

  -- the same is refused of kernels by a test that the new init calls pass where the old ones pass the other
  pub kernels_off : (m : Module) → list_all are_flagged m.functions ≡ true → list_all (λ f. list_all plain (insts_of f)) m.functions ≡ true → kernel_refusals_by new (machine_off m) ≡ kernel_refusals_by test m
  kernels_off m flags e =
      let kernels = any_kernel m.functions in
      let functions = flat_where (λ f. list_all plain (insts_of f)) (of_function_by test m) (of_function_by new (machine_off m)) function_off (function_rules_off m flags) m.functions e in
      λ k. shaped (kernels k) 1 ++ functions k
