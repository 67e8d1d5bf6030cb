use Rattle.std.proofs.Common.{Some, Ok, Err, refl, sym, ap, ◌∙◌, subst}
use Rattle.mem_model.specs.Next.{Next}
use Rattle.thread_state.specs.Seen.{thread_seen, IsThread}
use Rattle.interp_local.specs.Steps.{IsOwn}
use Rattle.interp.specs.Events.{IsPending}
use Rattle.mem_model.specs.declared.step.Moved.TheVariants.{Trapped}
use Rattle.interp.specs.Teams.{Advances, HasAdvanced}
use Rattle.interp.proofs.Advance.{own_went, own_event, own_done, next_trap, local_goes, trap_goes}
use Rattle.interp.proofs.team.advance.Goals as goal

pub happen-requires-clause-state : goal.happen-requires-clause-state
happen-requires-clause-state c =
    let m = c.args.m.now in
    let s = c.args.s.now in
    let p = own_event m s c.next.new.s (Next m (thread_seen m s)) (subst (λ o. IsOwn m s c.next.new.s (Next m (thread_seen m s)) (Ok o)) c.in-Ok-Event.field-0-is c.in-Ok-Event.ensures) in
    subst (IsThread m) (sym p.0) c.requires.state

pub happen-requires-clause-pending : goal.happen-requires-clause-pending
happen-requires-clause-pending c =
    let m = c.args.m.now in
    let s = c.args.s.now in
    let p = own_event m s c.next.new.s (Next m (thread_seen m s)) (subst (λ o. IsOwn m s c.next.new.s (Next m (thread_seen m s)) (Ok o)) c.in-Ok-Event.field-0-is c.in-Ok-Event.ensures) in
    subst (λ v. IsPending (Next m (thread_seen m v))) (sym p.0) p.1

pub returns-in-Ok-Event : goal.returns-in-Ok-Event
returns-in-Ok-Event c =
    let m = c.args.m.now in
    let s = c.args.s.now in
    let p = own_event m s c.next.new.s (Next m (thread_seen m s)) (subst (λ o. IsOwn m s c.next.new.s (Next m (thread_seen m s)) (Ok o)) c.in-Ok-Event.field-0-is c.in-Ok-Event.ensures) in
    subst (λ v. HasAdvanced m c.args.thread c.args.sh.now c.happen.new.sh v c.happen.new.s c.happen.result) p.0 c.happen.ensures

pub returns-in-Ok-Went : goal.returns-in-Ok-Went
returns-in-Ok-Went c =
    let m = c.args.m.now in
    let s = c.args.s.now in
    local_goes m c.args.thread c.args.sh.now s c.next.new.s c.requires.running
    (own_went m s c.next.new.s (Next m (thread_seen m s)) (subst (λ o. IsOwn m s c.next.new.s (Next m (thread_seen m s)) (Ok o)) c.in-Ok-Went.field-0-is c.in-Ok-Went.ensures))

pub returns-in-Ok-Done : goal.returns-in-Ok-Done
returns-in-Ok-Done c =
    let m = c.args.m.now in
    let s = c.args.s.now in
    let p = own_done m s c.next.new.s (Next m (thread_seen m s)) (subst (λ o. IsOwn m s c.next.new.s (Next m (thread_seen m s)) (Ok o)) c.in-Ok-Done.field-0-is c.in-Ok-Done.ensures) in
    (p.0, refl, p.1)

pub returns-in-Err-Refused : goal.returns-in-Err-Refused
returns-in-Err-Refused c =
    let m = c.args.m.now in
    let s = c.args.s.now in
    let p = next_trap m s c.next.new.s c.in-Err-Refused.trap c.next.result (c.in-Err-Refused.is ∙ ap Err c.in-Err-Refused.field-0-is) c.next.ensures in
    subst (λ x. Advances m c.args.thread c.args.sh.now (record c.args.sh.now { trapped = Some (record { thread = c.args.thread; line = c.line_of.result; trap = x }) }) s c.next.new.s Trapped) (sym c.in-Err-Refused.trap-is)
    (trap_goes m c.args.thread c.line_of.result c.args.sh.now s c.next.new.s c.in-Err-Refused.trap c.requires.running p.0 p.1 c.line_of.ensures)
