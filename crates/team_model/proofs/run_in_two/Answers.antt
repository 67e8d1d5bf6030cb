use Rattle.mem_model.proofs.Runs.{run-append}
use Rattle.team_model.specs.Team.{TeamStep}
use Rattle.team_model.proofs.run_in_two.Goals as goal

pub returns : goal.returns
returns c = λ m first second s. run-append (TeamStep m) first second s
