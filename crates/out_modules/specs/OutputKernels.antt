-- The shape of the kernels that the optimiser gives: that of those that it takes, but that the flag of the init call may be 0, too.
use Rattle.std.specs.Prelude.{ℕ, List, ◌++◌, Bool, true, false, ◌&&◌, Option, Some, None, if◌then◌else◌}
use Rattle.std.specs.List.{flat_map, list_any}
use Rattle.ir_core.specs.declared.instructions.Inst.{Inst}
use Rattle.ir_core.specs.declared.module.Module.{Module}
use Rattle.ir_core.specs.declared.module.Function.{Function}
use Rattle.ir_core.specs.declared.refusal.Refusal.{Refusal}
use Rattle.shapes.specs.Facts.{insts_of, first_insts, operand_of, is_constant}
use Rattle.shapes.specs.KernelShape.{shaped, is_kernel, spmd_inputs, has_heading, exec_mode, of_exec_mode, Opening, opening, of_opener, is_generic_init, of_behind, kernel_ways, of_exit, of_block, of_modes, deinit_outside}

-- ---- the flag of an init call

-- the mode is generic, and the runtime's own state machine is switched off
abbrev pub is_switched_off_init : Inst → Bool
is_switched_off_init i = is_constant 1 (operand_of i 1) && is_constant 0 (operand_of i 2)

-- the mode is generic, and the state machine is asked for or switched off
abbrev pub is_output_init : Inst → Bool
is_output_init i = if is_generic_init i then true else is_switched_off_init i

-- ---- the rules, with a test in place of the one on the init call

abbrev pub of_opening_by : (Inst → Bool) → ℕ → List Inst → Option Opening → List Refusal
of_opening_by test line insts None = shaped false line
of_opening_by test line insts (Some o) =
    flat_map (of_opener insts) o.before ++ shaped (test o.init) o.init.line ++ of_behind line o.init.result o.behind

abbrev pub of_code_by : (Inst → Bool) → Module → Function → List Refusal
of_code_by test m f =
    shaped (has_heading m f) f.line ++ of_opening_by test f.line (first_insts f.blocks) (opening (first_insts f.blocks))
    ++ of_exit f (kernel_ways f) ++ flat_map (of_block (kernel_ways f)) f.blocks

abbrev pub of_generic_by : (Inst → Bool) → Module → Function → List Refusal
of_generic_by test m f = of_exec_mode m (exec_mode m f) ++ of_code_by test m f

abbrev pub of_function_by : (Inst → Bool) → Module → Function → List Refusal
of_function_by test m f = if is_kernel f then of_modes (spmd_inputs m f) (of_generic_by test m f) else flat_map deinit_outside (insts_of f)

abbrev pub kernel_refusals_by : (Inst → Bool) → Module → List Refusal
kernel_refusals_by test m = shaped (list_any is_kernel m.functions) 1 ++ flat_map (of_function_by test m) m.functions

-- what is refused of the kernels of a module that the optimiser gives
abbrev pub output_kernel_refusals : Module → List Refusal
output_kernel_refusals = kernel_refusals_by is_output_init
