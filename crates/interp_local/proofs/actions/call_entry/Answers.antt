use Rattle.std.proofs.Common.{◌≡◌, Err, sym, ◌∙◌, subst, rules}
use Rattle.std.specs.Prelude.{IfOk}
use Rattle.thread_state.specs.Seen.{answers_seen}
use Rattle.mem_model.specs.Values.{operand_words}
use Rattle.interp_local.specs.Operands.{registers}
use Rattle.interp_local.specs.Actions.{IsAction}
use Rattle.mem_model.specs.Next.{CallsEntry}
use Rattle.interp_local.specs.Steps.{IsRun}
use Rattle.interp_local.proofs.Shares.{other_entry, given_trap, given_words}
use Rattle.interp_local.proofs.actions.call_entry.Goals as goal

pub returns-in_err-given-in_default : goal.returns-in_err-given-in_default
returns-in_err-given-in_default c =
    let m = c.args.m.now in
    let s = c.args.s.now in
    let r = registers m s in
    let own = s.own in
    let a = answers_seen s.answers in
    let entry = c.args.entry in
    let e = c.in_err-given-in_default.field-0.0 in
    let is : c.from_residual.result ≡ Err e = search rules in
    record {
      value =
          is
          ∙ given_trap own a entry (operand_words m r c.args.args.now) e (sym c.in_err-given-in_default.was ∙ c.given.ensures)
          ∙ sym (other_entry m r own a c.args.args.now entry c.in_default.not-TargetInit c.in_default.not-TargetDeinit c.in_default.not-Parallel);
      is = subst (λ result. IfOk result IsAction) (sym is) tt;
    }

pub returns-in_ok-given-in_default : goal.returns-in_ok-given-in_default
returns-in_ok-given-in_default c =
    let m = c.args.m.now in
    let s = c.args.s.now in
    let r = registers m s in
    let own = s.own in
    let a = answers_seen s.answers in
    let entry = c.args.entry in
    record {
      value =
          c.known.ensures.value
          ∙ given_words own a entry (operand_words m r c.args.args.now) c.in_ok-given-in_default.field-0 (sym c.in_ok-given-in_default.was ∙ c.given.ensures)
          ∙ sym (other_entry m r own a c.args.args.now entry c.in_default.not-TargetInit c.in_default.not-TargetDeinit c.in_default.not-Parallel);
      is = c.known.ensures.is;
    }

pub fork-requires-clause-served : goal.fork-requires-clause-served
fork-requires-clause-served c = subst (λ r. IsRun c.args.args.now (CallsEntry r)) c.in-Parallel.is c.requires.served
