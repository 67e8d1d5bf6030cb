use Rattle.std.proofs.Common.{◌≡◌, ◌+◌, List, ℕ, Option, Some, IfSome, take, sym, subst}
use Rattle.ir_core.specs.Tokens.{text_limit}
use Rattle.opt_core.specs.Answer.{path_of, texts, IsAnswer, IsTextReply}
use Rattle.opt_core.proofs.Front.{file_reply}
use Rattle.opt_core.proofs.top.reply_to_words.Goals as goal

pub returns-in-Ok-clause-reply : goal.returns-in-Ok-clause-reply
returns-in-Ok-clause-reply g c =
    let held = g.I.Inputs.held c.args.inputs.now in
    let path : path_of (texts c.args.words.now) ≡ Some c.in-Some.path.now = c.in-Some.ensures in
    let bytes : IfSome (held c.in-Some.path.now) (λ content. c.in_ok-text.text.items ≡ take (text_limit + 1) content) = subst (λ n. IfSome (held c.in-Some.path.now) (λ content. c.in_ok-text.text.items ≡ take n content)) c.text_read_limit.ensures.value c.in_ok-text.ensures.bytes in
    let reply : IsTextReply c.in_ok-text.text.items c.in-Ok.reply.status c.in-Ok.reply.out c.in-Ok.reply.notes = subst (λ (t : List ℕ). IsTextReply t c.in-Ok.reply.status c.in-Ok.reply.out c.in-Ok.reply.notes) c.as_slice.ensures.value c.in-Ok.ensures.reply in
    subst (λ (p : Option (List ℕ)). IsAnswer p held c.in-Ok.reply.status c.in-Ok.reply.out c.in-Ok.reply.notes) (sym path) (file_reply (held c.in-Some.path.now) c.in_ok-text.text.items c.in-Ok.reply.status c.in-Ok.reply.out c.in-Ok.reply.notes bytes reply)
