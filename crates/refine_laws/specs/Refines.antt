-- What it means that an optimised module refines its source.
use Rattle.std.specs.Prelude.{ℕ, Bool, true, false}
use Rattle.ir_core.specs.declared.module.Module.{Module}
use Rattle.mem_model.specs.declared.launch.Launch.{Launch}
use Rattle.mem_model.specs.Runs.{Covers}
use Rattle.mem_model.specs.Launching.{Fits, Bound}
use Rattle.source_model.specs.Source.{SourceSystem, Safe}
use Rattle.team_model.specs.Team.{TeamSystem, is_spmd}

abbrev pub mode_bit : Bool → ℕ
mode_bit true = 1
mode_bit false = 0

-- where no source schedule traps, the team of the optimised module covers the source at the bit of the kernel's mode, within the bound
abbrev pub Refines : Module → Module → Launch → Type 0
Refines m out l = Safe m l → Covers (TeamSystem m out l) (SourceSystem m l (mode_bit (is_spmd out l))) (Bound m l)

-- at every launch that fits
abbrev pub RefinesSource : Module → Module → Type 0
RefinesSource m out = (l : Launch) → Fits m l → Refines m out l
