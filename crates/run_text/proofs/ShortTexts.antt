-- What the short texts spell, by computation.
use Rattle.std.proofs.Common.{refl}
use Rattle.std.specs.Fmt.{digits}
use Rattle.mem_model.specs.Launching.{steps_limit}
use Rattle.run_text.specs.ScheduleText.{schedule_limit}
use Rattle.run_text.specs.Rows.{ReadsPairs, RefusesThread, RefusesForm, PrintsReport}

pub reads_pairs : ReadsPairs
unfolding schedule_limit steps_limit
reads_pairs = (refl, refl)

pub refuses_thread : RefusesThread
unfolding schedule_limit steps_limit
refuses_thread = refl

pub refuses_form : RefusesForm
unfolding schedule_limit steps_limit
refuses_form = (refl, refl, refl)

pub prints_report : PrintsReport
unfolding digits
prints_report = refl
