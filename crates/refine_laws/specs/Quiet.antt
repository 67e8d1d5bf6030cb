-- Modules without a region and without output: of the device runtime they call __kmpc_target_init and __kmpc_target_deinit alone.
use Rattle.std.specs.Prelude.{◌≡◌, List, Bool, true, false, Option, Some, None}
use Rattle.std.specs.List.{flat_map, list_all}
use Rattle.ir_core.specs.declared.module.Module.{Module}
use Rattle.ir_core.specs.declared.rtl.Rtl.{Rtl}
use Rattle.ir_core.specs.declared.rtl.Rtl.TheVariants.{TargetInit, TargetDeinit}
use Rattle.ir_core.specs.Places.{Name}
use Rattle.ir_core.specs.Wrappers.{callees}
use Rattle.mem_model.specs.Next.{entry_of}

-- a kernel's ends, or no entry point
abbrev pub is_quiet : Option Rtl → Bool
is_quiet None = true
is_quiet (Some TargetInit) = true
is_quiet (Some TargetDeinit) = true
is_quiet (Some _) = false

abbrev pub is_quiet_name : Name → Bool
is_quiet_name x = is_quiet (entry_of x)

abbrev pub AllQuiet : List Name → Type 0
AllQuiet xs = list_all is_quiet_name xs ≡ true

-- no function of the module calls another entry point
abbrev pub CallsQuietly : Module → Type 0
CallsQuietly m = AllQuiet (flat_map callees m.functions)
