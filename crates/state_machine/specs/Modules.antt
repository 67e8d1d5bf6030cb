-- The module in which some kernels have their machines written out, and all others have theirs switched off.
use Rattle.std.specs.Prelude.{ℕ, List, [], ◌∷◌, ◌++◌, decimal, map, Bool, true, false, Option, Some, None, slice_get, if◌then◌else◌}
use Rattle.std.specs.List.{list_any}
use Rattle.ir_core.specs.declared.types.Ty.{Ty}
use Rattle.ir_core.specs.declared.module.Module.{Module}
use Rattle.ir_core.specs.declared.module.Function.{Function}
use Rattle.ir_core.specs.declared.module.Param.{Param}
use Rattle.ir_core.specs.declared.rtl.Rtl.{Rtl}
use Rattle.ir_core.specs.declared.rtl.Rtl.TheVariants.{KernelParallel, KernelEndParallel, GenericBarrier}
use Rattle.ir_core.specs.EntryPoints.{entry_point, entry_name}
use Rattle.ir_core.specs.MachineOff.{function_off}
use Rattle.state_machine.specs.declared.plan.Machine.{Machine}
use Rattle.state_machine.specs.Machine.{kernel_with}
use Rattle.state_machine.specs.Numbered.{flat_from}

-- ---- functions, by the machine that each gets, where it gets one

abbrev pub changed : Option (Option Machine) → Function → Function
changed (Some (Some a)) f = kernel_with a f
changed _ f = function_off f

abbrev pub changed_at : List (Option Machine) → ℕ → Function → List Function
changed_at plans n f = changed (slice_get plans n) f ∷ []

-- ---- the entry points that machines call are declared behind the last function, in the order of their table

abbrev pub machine_entries : List Rtl
machine_entries = KernelParallel ∷ KernelEndParallel ∷ GenericBarrier ∷ []

-- a parameter is called by its number
abbrev pub numbered : ℕ → Ty → Param
numbered n ty = record { name = decimal n; ty = ty }

abbrev pub numbered_param : ℕ → Ty → List Param
numbered_param n ty = numbered n ty ∷ []

-- it stands on no line of the text
abbrev pub declaration : Rtl → Function
declaration r = record { name = entry_name r; words = []; ret = (entry_point r).result; params = flat_from numbered_param 0 (entry_point r).params; groups = []; blocks = []; line = 0 }

abbrev pub is_machine : Option Machine → Bool
is_machine (Some a) = true
is_machine None = false

abbrev pub declarations : List (Option Machine) → List Function
declarations plans = if list_any is_machine plans then map declaration machine_entries else []

-- the module with the machines of these plans, one for each function
abbrev pub with_machines : List (Option Machine) → Module → Module
with_machines plans m = record m { functions = flat_from (changed_at plans) 0 m.functions ++ declarations plans }
