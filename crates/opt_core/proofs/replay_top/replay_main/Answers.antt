use Rattle.std.proofs.Common.{[], refl, inl, inr}
use Rattle.opt_core.specs.Answer.{texts}
use Rattle.opt_core.specs.Replay.{paths_of}
use Rattle.opt_core.proofs.Answers.{note_written, not_five, six_rose}
use Rattle.opt_core.proofs.ReplayAnswers.{answer_own, is_replay_failure}
use Rattle.opt_core.proofs.replay_top.replay_main.Goals as goal

pub returns-in-Err-Failed-clause-told : goal.returns-in-Err-Failed-clause-told
returns-in-Err-Failed-clause-told g c =
    (5, [], _, inr (inl (is_replay_failure _ _ _ _ _ refl (c.in-Err-Failed.ensures.cause c.in-Err-Failed.field-0-is))), note_written 5 c.note_of.result _ (g.K.Sink.taken c.args.out.now) _ _ c.note_of.ensures.written)

pub returns-in-Err-Memory-clause-told : goal.returns-in-Err-Memory-clause-told
returns-in-Err-Memory-clause-told g c =
    (7, [], _, inr (inr (refl, refl, refl)), note_written 7 c.note_of-in-Err-Memory.result _ (g.K.Sink.taken c.args.out.now) _ _ c.note_of-in-Err-Memory.ensures.written)

pub returns-in-Ok-clause-input : goal.returns-in-Ok-clause-input
returns-in-Ok-clause-input g c =
    let own = answer_own c.in-Ok.reply.status c.in-Ok.reply.out c.in-Ok.reply.notes (paths_of (texts c.args.words.now)) (g.I.Inputs.held c.args.inputs.now) c.in-Ok.ensures.reply in
    not_five c.in-Ok.reply.status c.write_reply.result own.0 c.write_reply.ensures.sink

pub returns-in-Ok-clause-sink : goal.returns-in-Ok-clause-sink
returns-in-Ok-clause-sink g c =
    let own = answer_own c.in-Ok.reply.status c.in-Ok.reply.out c.in-Ok.reply.notes (paths_of (texts c.args.words.now)) (g.I.Inputs.held c.args.inputs.now) c.in-Ok.ensures.reply in
    six_rose c.in-Ok.reply.status c.write_reply.result own.1 c.write_reply.ensures.sink
