-- What the optimiser gives.
use Rattle.std.specs.Prelude.{◌≡◌, ℕ, List, map}
use Rattle.ir_core.specs.declared.module.Module.{Module}
use Rattle.ir_core.specs.declared.remark.Mode.{Mode}
use Rattle.ir_core.specs.declared.remark.Mode.TheVariants.{Empty}
use Rattle.ir_core.specs.MachineOff.{machine_off, init_lines, Remarks}
use Rattle.opt_core.specs.declared.optimiser.Optimised.{Optimised}

abbrev pub empty_mode : ℕ → Mode
empty_mode line = Empty

-- a kernel without a region runs without a machine
abbrev pub Modes : Module → List Mode
Modes m = map empty_mode (init_lines m)

abbrev pub IsOptimisedModule : Module → Optimised → Type 0
IsOptimisedModule m o = (o.module ≡ machine_off m) × (o.modes ≡ Modes m) × (o.remarks ≡ Remarks m)
