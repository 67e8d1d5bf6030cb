-- The heading of a kernel with its instructions at hand.
use Rattle.std.specs.Prelude.{List, length, Bool, not, ◌==◌, ◌&&◌}
use Rattle.std.specs.List.{filter}
use Rattle.ir_core.specs.declared.instructions.Inst.{Inst}
use Rattle.ir_core.specs.declared.module.Module.{Module}
use Rattle.ir_core.specs.declared.module.Function.{Function}
use Rattle.ir_core.specs.declared.rtl.Rtl.TheVariants.{TargetInit}
use Rattle.ir_core.specs.FirstForm.{is_void}
use Rattle.ir_core.specs.Wrappers.{is_in}
use Rattle.shapes.specs.Facts.{is_call_of}
use Rattle.shapes.specs.Uses.{names_called, names_forked}

abbrev pub has_heading : Module → Function → List Inst → Bool
has_heading m f insts =
    is_void f.ret && not (is_in (names_called m) f.name) && not (is_in (names_forked m) f.name) && (length (filter (is_call_of TargetInit) insts) == 1)
