use Rattle.std.proofs.Common.{sym, ap, ◌∙◌, arith}
use Rattle.run_text.specs.Lines.{numeral}
use Rattle.run_text.specs.ScheduleText.{pair_in}
use Rattle.run_text.proofs.Pairs.{numbers_read}
use Rattle.run_text.proofs.schedule.read_pair.Goals as goal

pub returns-in-Some-Some : goal.returns-in-Some-Some
returns-in-Some-Some c =
    c.pair_of.ensures
    ∙ numbers_read c.args.threads (omega arith) c.in-Some-Some.thread c.in-Some-Some.count (numeral c.in-Some.thread.now) (numeral c.in-Some.count.now) c.in-Some-Some.ensures c.in-Some-Some.ensures'
    ∙ sym (ap (pair_in c.args.threads) c.in-Some.ensures)
