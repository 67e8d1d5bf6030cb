-- The region functions of forks on main sides, and forks that are refused.
use Rattle.std.specs.Prelude.{ℕ, List, not}
use Rattle.ir_core.specs.declared.instructions.Inst.{Inst}
use Rattle.ir_core.specs.declared.module.Module.{Module}
use Rattle.ir_core.specs.declared.refusal.Construct.TheVariants.{NestedParallel}
use Rattle.ir_core.specs.declared.refusal.Refusal.{Refusal}
use Rattle.ir_core.specs.declared.rtl.Rtl.TheVariants.{Parallel}
use Rattle.shapes.specs.CallPaths.{IsOnMainSide, Forks}
use Rattle.shapes.specs.Facts.{rule, is_call_of}

abbrev pub IsRegionAt : Module → ℕ → Type 0
IsRegionAt m at = (forking : ℕ) × IsOnMainSide m forking × Forks m forking at

abbrev pub nested_fork : Inst → List Refusal
nested_fork i = rule NestedParallel (not (is_call_of Parallel i)) i.line
