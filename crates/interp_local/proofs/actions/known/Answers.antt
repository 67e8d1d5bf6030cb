use Rattle.std.proofs.Common.{sym, ap, ◌∙◌}
use Rattle.thread_state.specs.Seen.{answers_seen}
use Rattle.interp_local.specs.Actions.{known_action}
use Rattle.interp_local.proofs.actions.known.Goals as goal

pub returns-in-GetSharedVariables-clause-value : goal.returns-in-GetSharedVariables-clause-value
returns-in-GetSharedVariables-clause-value c =
    let own = c.args.s.now.own in
    let a = answers_seen c.args.s.now.answers in
    c.share.ensures.value own a ∙ ap (λ entry. known_action own a entry c.args.words) (sym c.in-GetSharedVariables.is)

pub returns-in-Print-clause-value : goal.returns-in-Print-clause-value
returns-in-Print-clause-value c =
    let own = c.args.s.now.own in
    let a = answers_seen c.args.s.now.answers in
    c.print.ensures.value own a ∙ ap (λ entry. known_action own a entry c.args.words) (sym c.in-Print.is)

pub returns-in-AllocShared-clause-value : goal.returns-in-AllocShared-clause-value
returns-in-AllocShared-clause-value c =
    let own = c.args.s.now.own in
    let a = answers_seen c.args.s.now.answers in
    c.make.ensures.value own a ∙ ap (λ entry. known_action own a entry c.args.words) (sym c.in-AllocShared.is)

pub returns-in-FreeShared-clause-value : goal.returns-in-FreeShared-clause-value
returns-in-FreeShared-clause-value c =
    let own = c.args.s.now.own in
    let a = answers_seen c.args.s.now.answers in
    c.release.ensures.value own a ∙ ap (λ entry. known_action own a entry c.args.words) (sym c.in-FreeShared.is)
