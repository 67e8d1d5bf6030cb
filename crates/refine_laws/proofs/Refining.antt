-- A kernel of the first form whose machine is switched off refines its source.
use Rattle.std.proofs.Common.{◌≡◌, Bool, false, sym, ◌∙◌, subst}
use Rattle.ir_core.specs.declared.module.Module.{Module}
use Rattle.ir_core.specs.FirstForm.{HasFirstForm}
use Rattle.ir_core.specs.MachineOff.{machine_off}
use Rattle.mem_model.specs.declared.launch.Launch.{Launch}
use Rattle.mem_model.specs.Runs.{Covers}
use Rattle.mem_model.specs.Launching.{Fits, Bound}
use Rattle.source_model.specs.Source.{SourceSystem}
use Rattle.team_model.specs.Team.{TeamSystem, is_spmd}
use Rattle.refine_laws.specs.Refines.{mode_bit, Refines}
use Rattle.refine_laws.proofs.SameNext.{spmd_same}
use Rattle.refine_laws.proofs.Cover.{is_generic, machine_off_covers}

-- such a kernel runs in generic mode
generic_off : (m : Module) (l : Launch) → HasFirstForm m → Fits m l → is_spmd (machine_off m) l ≡ false
generic_off m l form fits =
    spmd_same m l ∙ is_generic m l form fits

pub machine_off_refines : (m : Module) (l : Launch) → HasFirstForm m → Fits m l → Refines m (machine_off m) l
machine_off_refines m l form fits = λ safe. subst (λ (spmd : Bool). Covers (TeamSystem m (machine_off m) l) (SourceSystem m l (mode_bit spmd)) (Bound m l)) (sym (generic_off m l form fits)) (machine_off_covers m l form fits)
