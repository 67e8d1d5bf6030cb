-- The rules on the wrappers of regions and on the forks that name them.
use Rattle.std.specs.Prelude.{ℕ, ◌+◌, ◌*◌, List, [], ◌∷◌, ◌++◌, length, Bool, true, false, not, nat_le, ◌==◌, ◌&&◌, Option, Some, None, if◌then◌else◌}
use Rattle.std.specs.List.{flat_map, list_all}
use Rattle.ir_core.specs.declared.instructions.Value.{Value}
use Rattle.ir_core.specs.declared.instructions.Value.TheVariants.{Global as GlobalValue}
use Rattle.ir_core.specs.declared.instructions.Typed.{Typed}
use Rattle.ir_core.specs.declared.instructions.Inst.{Inst}
use Rattle.ir_core.specs.declared.module.Module.{Module}
use Rattle.ir_core.specs.declared.module.Function.{Function}
use Rattle.ir_core.specs.declared.module.Param.{Param}
use Rattle.ir_core.specs.declared.refusal.Construct.TheVariants.{WrapperShape}
use Rattle.ir_core.specs.declared.refusal.Refusal.{Refusal}
use Rattle.ir_core.specs.declared.rtl.Rtl.TheVariants.{Parallel}
use Rattle.ir_core.specs.FirstForm.{is_int_of, is_ptr, is_void, is_function, empty}
use Rattle.ir_core.specs.Wrappers.{is_in, is_wrapper, region_function, captures}
use Rattle.shapes.specs.Facts.{rule, insts_of, insts_in, function_given, is_call_of, operand_of, is_constant}
use Rattle.shapes.specs.Uses.{names_elsewhere}
use Rattle.shapes.specs.Walk.{of_walk}

-- ---- region functions

-- a capture is a pointer or a word of 64 bits
abbrev pub is_capture : Param → Bool
is_capture p = if is_ptr p.ty then true else is_int_of 64 p.ty

abbrev pub are_region_params : List Param → Bool
are_region_params (thread ∷ bound ∷ captured) = is_ptr thread.ty && is_ptr bound.ty && list_all is_capture captured
are_region_params _ = false

abbrev pub is_region : Option Function → Bool
is_region None = false
is_region (Some f) = is_void f.ret && are_region_params f.params

-- ---- wrappers

abbrev pub are_wrapper_params : List Param → Bool
are_wrapper_params (zero_ ∷ thread ∷ []) = is_int_of 16 zero_.ty && is_int_of 32 thread.ty
are_wrapper_params _ = false

-- a wrapper of so many captures has no more instructions than these
abbrev pub most_insts : ℕ → ℕ
most_insts captures = 16 + 8 * captures

-- what is asked of a wrapper but for its walk: it is defined, in one block that isn't long, and is named as a fork's wrapper alone
abbrev pub has_wrapper_form : Module → Function → Bool
has_wrapper_form m f =
    is_void f.ret && are_wrapper_params f.params && (length f.blocks == 1) && is_region (region_function m f)
    && nat_le (length (insts_of f)) (most_insts (captures m f)) && not (is_in (names_elsewhere m) f.name)

abbrev pub of_wrapper : Module → Function → List Refusal
of_wrapper m f = if has_wrapper_form m f then of_walk m f else rule WrapperShape false f.line

abbrev pub of_function : Module → Function → List Refusal
of_function m f = if is_wrapper m f then of_wrapper m f else []

-- ---- forks

abbrev pub is_defined : Function → Bool
is_defined f = not (empty f.blocks)

abbrev pub names_function : Option Function → Option Typed → Bool
names_function None v = false
names_function (Some f) None = false
names_function (Some f) (Some v) = is_function f.name v.value

-- the region function is the one that the wrapper calls, and the number of words is that of its captures
abbrev pub forks_by : Module → Option Function → Inst → Bool
forks_by m None i = false
forks_by m (Some f) i = is_defined f && names_function (region_function m f) (operand_of i 5) && is_constant (captures m f) (operand_of i 8)

abbrev pub wrapper_given : Module → Option Typed → Option Function
wrapper_given m None = None
wrapper_given m (Some v) = by_value v.value
  where
    by_value : Value → Option Function
    by_value (GlobalValue x) = function_given m x
    by_value _ = None

abbrev pub of_fork : Module → Inst → List Refusal
of_fork m i = rule WrapperShape (if is_call_of Parallel i then forks_by m (wrapper_given m (operand_of i 6)) i else true) i.line

-- ---- the whole

abbrev pub wrapper_refusals : Module → List Refusal
wrapper_refusals m = flat_map (of_function m) m.functions ++ flat_map (of_fork m) (insts_in m)
