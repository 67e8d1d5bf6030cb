use Rattle.std.proofs.Common.{◌+◌}
use Rattle.run_text.specs.ScheduleText.{schedule_limit}
use Rattle.opt_core.proofs.ReplayAnswers.{read_to, schedule_file}
use Rattle.opt_core.proofs.replay_top.reply_to_launched.Goals as goal

pub returns-clause-reply : goal.returns-clause-reply
returns-clause-reply g c =
    let held = g.I.Inputs.held c.args.inputs.now c.args.schedule.now in
    let text = c.as_slice.result.now in
    let read = read_to held c.in_ok-text.text.items text c.schedule_read_limit.result (schedule_limit + 1) c.schedule_read_limit.ensures.value c.as_slice.ensures.value c.in_ok-text.ensures.bytes in
    schedule_file c.args.m.now c.args.l.now held text c.in_ok-reply_to_schedule.field-0 read c.in_ok-reply_to_schedule.ensures
