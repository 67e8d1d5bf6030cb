use Rattle.mem_model.proofs.Runs.{run-append}
use Rattle.source_model.specs.Source.{SourceStep}
use Rattle.source_model.proofs.run_in_two.Goals as goal

pub returns : goal.returns
returns c = λ m first second s. run-append (SourceStep m) first second s
