use Rattle.opt_core.proofs.Answers.{is_optimised, is_refused, own_status}
use Rattle.opt_core.proofs.reply.reply_to_text.Goals as goal

pub returns-in-Ok-clause-reply : goal.returns-in-Ok-clause-reply
returns-in-Ok-clause-reply c = is_optimised c.args.text.now c.in-Ok.m c.optimised.result c.in-Ok.ensures.taken c.optimised.ensures

pub returns-in-Err-Refused-clause-reply : goal.returns-in-Err-Refused-clause-reply
returns-in-Err-Refused-clause-reply c = is_refused c.args.text.now c.in-Err-Refused.refusal c.refused.result (rw c.in-Err-Refused.field-0-is at c.in-Err-Refused.ensures.refused) c.refused.ensures

pub returns-in-Ok-clause-own : goal.returns-in-Ok-clause-own
returns-in-Ok-clause-own c = own_status c.in-Ok.m c.optimised.result c.optimised.ensures
