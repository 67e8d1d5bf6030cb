-- The form of a wrapper, in what the code has of it.
use Rattle.std.specs.Prelude.{ℕ, length, Bool, not, nat_le, ◌==◌, ◌&&◌, Option}
use Rattle.ir_core.specs.declared.instructions.Inst.{Inst}
use Rattle.ir_core.specs.declared.module.Function.{Function}
use Rattle.ir_core.specs.FirstForm.{is_void}
use Rattle.ir_core.specs.Wrappers.{captures_of}
use Rattle.shapes.specs.Facts.{operand_of, is_constant}
use Rattle.shapes.specs.Wrappers.{are_wrapper_params, is_region, most_insts, is_defined, names_function}

-- with this region function and so many instructions, and named elsewhere or not
abbrev pub has_form : Option Function → Function → ℕ → Bool → Bool
has_form region f insts elsewhere =
    is_void f.ret && are_wrapper_params f.params && (length f.blocks == 1) && is_region region && nat_le insts (most_insts (captures_of region)) && not elsewhere

-- a fork names this function as the wrapper of its region function
abbrev pub names_both : Function → Option Function → Inst → Bool
names_both f region i = is_defined f && names_function region (operand_of i 5) && is_constant (captures_of region) (operand_of i 8)
