use Rattle.std.proofs.Common.{refl}
use Rattle.run_text.specs.ScheduleText.{schedule_limit}
use Rattle.run_text.proofs.schedule.schedule_limit.Goals as goal

pub returns-clause-value : goal.returns-clause-value
unfolding schedule_limit
returns-clause-value c = refl
