-- Calls of entry points that can't be run yet, by the callee's name.
use Rattle.std.specs.Prelude.{Bool, false, not, ◌&&◌}
use Rattle.std.specs.List.{list_any}
use Rattle.std.specs.Str.{bytes_eq}
use Rattle.ir_core.specs.declared.instructions.Value.{Value}
use Rattle.ir_core.specs.declared.instructions.Value.TheVariants.{Global as GlobalValue}
use Rattle.ir_core.specs.declared.instructions.Kind.{Kind}
use Rattle.ir_core.specs.declared.instructions.Kind.TheVariants.{Call}
use Rattle.ir_core.specs.EntryPoints.{entry_name, entry_points}
use Rattle.ir_core.specs.Places.{Name}
use Rattle.shapes.specs.Refusals.{is_built}

abbrev pub is_unbuilt_name : Name → Bool
is_unbuilt_name x = list_any (λ r. bytes_eq x (entry_name r) && not (is_built r)) entry_points

abbrev pub is_unbuilt_callee : Value → Bool
is_unbuilt_callee (GlobalValue x) = is_unbuilt_name x
is_unbuilt_callee _ = false

abbrev pub is_unbuilt_kind : Kind → Bool
is_unbuilt_kind (Call tail_word ret callee operands) = is_unbuilt_callee callee
is_unbuilt_kind _ = false
