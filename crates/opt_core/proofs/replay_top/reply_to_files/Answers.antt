use Rattle.std.proofs.Common.{◌+◌}
use Rattle.ir_core.specs.Tokens.{text_limit}
use Rattle.opt_core.specs.ReplayStages.{paths_seen}
use Rattle.opt_core.proofs.ReplayAnswers.{read_to, module_file, module_refused, behind_module, never_falls}
use Rattle.opt_core.proofs.replay_top.reply_to_files.Goals as goal

pub reply_to_module-requires-clause-rules : goal.reply_to_module-requires-clause-rules
reply_to_module-requires-clause-rules g c = c.in-Ok.ensures.taken.1

pub reply_to_module-requires-clause-built : goal.reply_to_module-requires-clause-built
reply_to_module-requires-clause-built g c = c.in-Ok.ensures.taken.2

pub returns-in-Ok-clause-reply : goal.returns-in-Ok-clause-reply
returns-in-Ok-clause-reply g c =
    let held = g.I.Inputs.held c.args.inputs.now in
    let p = paths_seen c.args.paths.now in
    let text = c.as_slice.result.now in
    let read = read_to (held p.module) c.in_ok-text.text.items text c.text_read_limit.result (text_limit + 1) c.text_read_limit.ensures.value c.as_slice.ensures.value c.in_ok-text.ensures.bytes in
    module_file held p text read (g.I.Inputs.held c.read_file.new.inputs) c.in-Ok.m c.reply_to_module.result c.read_file.ensures.holds c.in-Ok.ensures.taken c.reply_to_module.ensures.reply

pub returns-in-Ok-clause-cause : goal.returns-in-Ok-clause-cause
returns-in-Ok-clause-cause g c =
    let held = g.I.Inputs.held c.args.inputs.now in
    let p = paths_seen c.args.paths.now in
    let text = c.as_slice.result.now in
    let read = read_to (held p.module) c.in_ok-text.text.items text c.text_read_limit.result (text_limit + 1) c.text_read_limit.ensures.value c.as_slice.ensures.value c.in_ok-text.ensures.bytes in
    let before = g.I.Inputs.faults c.args.inputs.now in
    let between = g.I.Inputs.faults c.read_file.new.inputs in
    behind_module held p text read (g.I.Inputs.held c.read_file.new.inputs) before between (g.I.Inputs.faults c.reply_to_module.new.inputs) c.in-Ok.m c.reply_to_module.result c.read_file.ensures.holds
    (never_falls before between p.module c.read_file.ensures.later c.read_file.ensures.others) c.in-Ok.ensures.taken c.reply_to_module.ensures.cause

pub returns-in-Err-Refused-clause-reply : goal.returns-in-Err-Refused-clause-reply
returns-in-Err-Refused-clause-reply g c =
    let held = g.I.Inputs.held c.args.inputs.now in
    let p = paths_seen c.args.paths.now in
    let text = c.as_slice.result.now in
    let read = read_to (held p.module) c.in_ok-text.text.items text c.text_read_limit.result (text_limit + 1) c.text_read_limit.ensures.value c.as_slice.ensures.value c.in_ok-text.ensures.bytes in
    let refused = rw c.in-Err-Refused.field-0-is at c.in-Err-Refused.ensures.refused in
    module_refused held p text read c.in_ok-refused-in-Err-Refused.field-0 (c.in-Err-Refused.refusal, refused.0, refused.1, c.in_ok-refused-in-Err-Refused.ensures)
