-- Functions with the types of an entry point.
use Rattle.std.specs.Prelude.{List, Bool, ◌&&◌}
use Rattle.ir_core.specs.declared.types.Ty.{Ty}
use Rattle.ir_core.specs.declared.module.Param.{Param}
use Rattle.ir_core.specs.declared.rtl.Rtl.{Rtl}
use Rattle.ir_core.specs.EntryPoints.{entry_point}
use Rattle.ir_core.specs.NameRefusals.{is_result_of, are_declared}

abbrev pub is_typed : Rtl → Ty → List Param → Bool
is_typed r ret params = is_result_of r ret && are_declared (entry_point r).params params
