use Rattle.std.proofs.Common.{◌+◌}
use Rattle.run_text.specs.LaunchText.{launch_limit}
use Rattle.opt_core.specs.ReplayStages.{paths_seen}
use Rattle.opt_core.proofs.ReplayAnswers.{read_to, launch_file, behind_launch, never_falls}
use Rattle.opt_core.proofs.replay_top.reply_to_module.Goals as goal

pub returns-clause-reply : goal.returns-clause-reply
returns-clause-reply g c =
    let held = g.I.Inputs.held c.args.inputs.now in
    let p = paths_seen c.args.paths.now in
    let text = c.as_slice.result.now in
    let read = read_to (held p.launch) c.in_ok-text.text.items text c.launch_read_limit.result (launch_limit + 1) c.launch_read_limit.ensures.value c.as_slice.ensures.value c.in_ok-text.ensures.bytes in
    launch_file c.args.m.now held p text read (g.I.Inputs.held c.read_file.new.inputs p.schedule) c.reply_to_launch.result (c.read_file.ensures.holds p.schedule) c.reply_to_launch.ensures.reply

pub returns-clause-cause : goal.returns-clause-cause
returns-clause-cause g c =
    let held = g.I.Inputs.held c.args.inputs.now in
    let p = paths_seen c.args.paths.now in
    let text = c.as_slice.result.now in
    let read = read_to (held p.launch) c.in_ok-text.text.items text c.launch_read_limit.result (launch_limit + 1) c.launch_read_limit.ensures.value c.as_slice.ensures.value c.in_ok-text.ensures.bytes in
    let before = g.I.Inputs.faults c.args.inputs.now in
    let between = g.I.Inputs.faults c.read_file.new.inputs in
    behind_launch c.args.m.now held p text read before between (g.I.Inputs.faults c.reply_to_launch.new.inputs) c.reply_to_launch.result
    (never_falls before between p.launch c.read_file.ensures.later c.read_file.ensures.others) c.reply_to_launch.ensures.cause
