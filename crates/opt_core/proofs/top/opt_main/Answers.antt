use Rattle.std.proofs.Common.{[], refl, inl, inr, arith}
use Rattle.opt_core.proofs.Answers.{note_written, is_failure, not_five, six_rose, low_is_none}
use Rattle.opt_core.proofs.top.opt_main.Goals as goal

pub returns-in-Err-Failed-clause-told : goal.returns-in-Err-Failed-clause-told
returns-in-Err-Failed-clause-told g c =
    (5, [], _, inr (inl (is_failure _ _ _ _ refl (c.in-Err-Failed.ensures.cause c.in-Err-Failed.field-0-is))), note_written 5 c.note_of.result _ (g.K.Sink.taken c.args.out.now) _ _ c.note_of.ensures.written)

pub returns-in-Err-Memory-clause-told : goal.returns-in-Err-Memory-clause-told
returns-in-Err-Memory-clause-told g c =
    (7, [], _, inr (inr (refl, refl, refl)), note_written 7 c.note_of-in-Err-Memory.result _ (g.K.Sink.taken c.args.out.now) _ _ c.note_of-in-Err-Memory.ensures.written)

pub returns-in-Ok-clause-input : goal.returns-in-Ok-clause-input
returns-in-Ok-clause-input g c = not_five c.in-Ok.reply.status c.write_reply.result (low_is_none 5 c.in-Ok.reply.status (omega arith) c.in-Ok.ensures.own) c.write_reply.ensures.sink

pub returns-in-Ok-clause-sink : goal.returns-in-Ok-clause-sink
returns-in-Ok-clause-sink g c = six_rose c.in-Ok.reply.status c.write_reply.result (low_is_none 6 c.in-Ok.reply.status (omega arith) c.in-Ok.ensures.own) c.write_reply.ensures.sink
