use Rattle.refine_laws.proofs.SourceRun.{source_ends}
use Rattle.refine_laws.proofs.TeamRun.{team_ends}
use Rattle.refine_laws.proofs.example_ends.Goals as goal

pub returns-clause-source : goal.returns-clause-source
returns-clause-source c = source_ends

pub returns-clause-team : goal.returns-clause-team
returns-clause-team c = team_ends
