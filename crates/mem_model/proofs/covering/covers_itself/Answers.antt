use Rattle.mem_model.proofs.Runs.{covers_itself}
use Rattle.mem_model.proofs.covering.covers_itself.Goals as goal

pub returns : goal.returns
returns g c = covers_itself g.A.Behaves.comes
