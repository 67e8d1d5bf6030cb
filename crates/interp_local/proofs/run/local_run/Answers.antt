use Rattle.std.proofs.Common.{rules, true, false, ◌≡◌}
use Rattle.mem_model.specs.Next.{Next}
use Rattle.thread_state.specs.Seen.{thread_seen}
use Rattle.interp_local.specs.Runs.{IsRan, HasRunShort, is_went}
use Rattle.interp_local.proofs.Looks.{pauses, stays, answered_ok, answered_err, next_own, further, short, match_err}
use Rattle.interp_local.proofs.run.local_run.Goals as goal

pub returns-in_err-own : goal.returns-in_err-own
returns-in_err-own c =
    let m = c.args.m.now in
    let s = c.loop-steps.s in
    match_err (IsRan m c.args.s.now c.next.new.s c.args.limit) (HasRunShort m c.args.s.now c.next.new.s c.args.limit) c.from_residual.result c.from_residual.ensures.0
    (short m c.args.s.now s c.next.new.s c.loop-steps.steps c.args.limit c.next.result (answered_err c.next.result c.in_err-own.field-0.0 c.answered.result c.answered.ensures c.in_err-own.was) c.next.ensures c.loop-steps.invariant.run (search rules))

pub returns-then-not-went : goal.returns-then-not-went
returns-then-not-went c =
    let m = c.args.m.now in
    let s = c.loop-steps.s in
    let not : is_went c.in_ok-own.own ≡ false = search rules in
    let own = next_own m s c.next.new.s c.next.result c.in_ok-own.own (answered_ok c.next.result c.in_ok-own.own c.answered.result c.answered.ensures c.in_ok-own.was) c.next.ensures in
    let p = pauses m s c.next.new.s c.loop-steps.steps c.args.limit (Next m (thread_seen m s)) c.in_ok-own.own not c.loop-steps.invariant.thread own in
    stays m c.args.s.now s c.next.new.s c.loop-steps.steps c.args.limit _ c.pause_of.result p.0 c.loop-steps.invariant.run c.loop-steps.invariant.within p.1 c.pause_of.ensures

pub loop-steps-preserved : goal.loop-steps-preserved
loop-steps-preserved c =
    let m = c.args.m.now in
    let s = c.loop-steps.s in
    let yes_ : is_went c.in_ok-own.own ≡ true = search rules in
    let own = next_own m s c.next.new.s c.next.result c.in_ok-own.own (answered_ok c.next.result c.in_ok-own.own c.answered.result c.answered.ensures c.in_ok-own.was) c.next.ensures in
    let p = further m c.args.s.now s c.next.new.s c.loop-steps.steps c.in_ok-own.own yes_ own c.loop-steps.invariant.run in
    record { thread = p.0; run = p.1; within = search rules }
