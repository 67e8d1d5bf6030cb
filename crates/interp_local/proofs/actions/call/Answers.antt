use Rattle.std.proofs.Common.{sym, ap, ◌∙◌, subst}
use Rattle.ir_core.specs.Places.{function_place}
use Rattle.mem_model.specs.Next.{entry_or, defined_at, callee_of}
use Rattle.thread_state.specs.Seen.{answers_seen}
use Rattle.interp_local.specs.Operands.{registers}
use Rattle.interp_local.specs.Actions.{call_action}
use Rattle.interp_local.specs.Steps.{IsRun}
use Rattle.interp_local.proofs.EntryNames.{entry_found}
use Rattle.interp_local.proofs.actions.call.Goals as goal

pub returns-in-None-clause-value : goal.returns-in-None-clause-value
returns-in-None-clause-value c =
    let m = c.args.m.now in
    let x = c.in-Global.name in
    let r = registers m c.args.s.now in
    let own = c.args.s.now.own in
    let a = answers_seen c.args.s.now.answers in
    let operands = c.args.args.now in
    let found = entry_found x c.of.result c.of.ensures ∙ c.in-None.is in
    c.call_defined.ensures.value r own a operands
    ∙ ap (λ o. call_action m r own a operands (entry_or o (defined_at m (function_place m x)))) (sym found)
    ∙ ap (λ v. call_action m r own a operands (callee_of m v)) (sym c.in-Global.is)

pub returns-in-Some-clause-value : goal.returns-in-Some-clause-value
returns-in-Some-clause-value c =
    let m = c.args.m.now in
    let x = c.in-Global.name in
    let r = registers m c.args.s.now in
    let own = c.args.s.now.own in
    let a = answers_seen c.args.s.now.answers in
    let operands = c.args.args.now in
    let found = entry_found x c.of.result c.of.ensures ∙ c.in-Some.is in
    c.call_entry.ensures.value
    ∙ ap (λ o. call_action m r own a operands (entry_or o (defined_at m (function_place m x)))) (sym found)
    ∙ ap (λ v. call_action m r own a operands (callee_of m v)) (sym c.in-Global.is)

pub call_entry-requires-clause-served : goal.call_entry-requires-clause-served
call_entry-requires-clause-served c =
    let m = c.args.m.now in
    let x = c.in-Global.name in
    let found = entry_found x c.of.result c.of.ensures ∙ c.in-Some.is in
    subst (IsRun c.args.args.now) (ap (callee_of m) c.in-Global.is ∙ ap (λ o. entry_or o (defined_at m (function_place m x))) found) c.requires.served
