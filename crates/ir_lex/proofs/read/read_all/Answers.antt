use Rattle.std.proofs.Common.{sym, ◌∙◌, subst, true}
use Rattle.ir_lex.specs.Scanned.{SoFar, IsRead}
use Rattle.ir_lex.proofs.Steps.{token_more, bad_token, all_read}
use Rattle.ir_lex.proofs.read.read_all.Goals as goal

pub returns-then-is_bad : goal.returns-then-is_bad
returns-then-is_bad c =
    let all = bad_token c.args.text.now c.tokens.tokens c.tokens.place c.token_at-piece.result c.tokens.invariant (record { inside = c.tokens-test.true; is = c.token_at-piece.ensures.piece }) (sym c.is_bad.ensures ∙ c.if-is_bad.true) in
    subst (λ ts. IsRead c.args.text.now (record { tokens = ts; bad = true; line = c.tokens.place.line })) (sym c.in_ok-push.ensures.ok) all

pub tokens-preserved : goal.tokens-preserved
tokens-preserved c =
    let next = c.skip_gaps-place-in-tokens in
    let more = token_more c.args.text.now c.tokens.tokens c.tokens.place c.behind.result next.result c.token_at-piece.result c.tokens.invariant (record { inside = c.tokens-test.true; is = c.token_at-piece.ensures.piece }) (sym c.is_bad.ensures ∙ c.if-is_bad.false) c.behind.ensures next.ensures.gap next.ensures.begins in
    subst (λ ts. SoFar c.args.text.now ts next.result) (sym c.in_ok-push.ensures.ok) more

pub returns : goal.returns
returns c = all_read c.args.text.now c.tokens.tokens c.tokens.place c.tokens.invariant c.tokens-test.false
