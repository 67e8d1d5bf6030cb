use Rattle.std.proofs.Common.{◌≡◌, ◌-◌, List, length, take, sym, ap, ◌∙◌, subst}
use Rattle.ir_core.specs.Tokens.{lexemes}
use Rattle.ir_lex.specs.declared.token.Token.{Token}
use Rattle.ir_lex.specs.Seen.{tokens_seen}
use Rattle.ir_read.specs.Probes.{AreWithin}
use Rattle.read_items.specs.Refused.{IsTokenRefusal}
use Rattle.ir_read.proofs.Ends.{ends_within}
use Rattle.ir_read.proofs.Split.{text_refusal}
use Rattle.ir_read.proofs.module.read_module.Goals as goal

pub refusal_at-requires-clause-within : goal.refusal_at-requires-clause-within
refusal_at-requires-clause-within c =
    subst (λ (l : List Token). AreWithin c.looked_at-looked.result.now (take (length l - 1) l)) (sym c.as_slice-in-Err-Refused.ensures)
    (ends_within c.args.text.now c.looked_at-looked.result.now c.in_ok-tokens.tokens c.looked_at-looked.ensures.value c.in_ok-tokens.ensures)

pub returns-in-Err-Refused-clause-refused : goal.returns-in-Err-Refused-clause-refused
returns-in-Err-Refused-clause-refused c =
    let refused = rw c.in-Err-Refused.field-0-is at c.in-Err-Refused.ensures.refused in
    text_refusal c.args.text.now c.looked_at-looked.result.now c.in_ok-tokens.tokens c.as_slice-in-Err-Refused.result.now c.new.result c.in-Err-Refused.left c.in_ok-refusal_at-in-Err-Refused.field-0
    c.looked_at-looked.ensures.value
    c.as_slice-in-Err-Refused.ensures
    (c.new.ensures ∙ ap (λ (l : List Token). lexemes c.looked_at-looked.result.now (tokens_seen l)) c.as_slice.ensures)
    c.in_ok-tokens.ensures
    refused
    c.in_ok-refusal_at-in-Err-Refused.ensures
