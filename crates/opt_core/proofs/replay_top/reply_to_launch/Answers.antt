use Rattle.opt_core.proofs.ReplayAnswers.{launch_reply}
use Rattle.opt_core.proofs.replay_top.reply_to_launch.Goals as goal

pub returns-in-Ok-clause-reply : goal.returns-in-Ok-clause-reply
returns-in-Ok-clause-reply g c =
    launch_reply c.args.m.now (g.I.Inputs.held c.args.inputs.now c.args.schedule.now) c.args.text.now c.in-Ok.l c.reply_to_launched.result c.requires.rules c.in-Ok.ensures c.reply_to_launched.ensures.reply
