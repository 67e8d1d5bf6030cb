use Rattle.refine_laws.proofs.Refining.{machine_off_refines}
use Rattle.refine_laws.proofs.machine_off_refines.Goals as goal

pub returns : goal.returns
returns c = machine_off_refines
