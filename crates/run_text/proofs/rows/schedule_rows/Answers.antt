use Rattle.run_text.proofs.ShortTexts.{reads_pairs, refuses_thread, refuses_form}
use Rattle.run_text.proofs.rows.schedule_rows.Goals as goal

pub returns-clause-pairs : goal.returns-clause-pairs
returns-clause-pairs c = reads_pairs

pub returns-clause-thread : goal.returns-clause-thread
returns-clause-thread c = refuses_thread

pub returns-clause-form : goal.returns-clause-form
returns-clause-form c = refuses_form
