use Rattle.std.proofs.Common.{Ok, Err, sym, ap, ◌∙◌, subst}
use Rattle.team_model.specs.Team.{TeamShared}
use Rattle.captures.specs.Published.{IsArea}
use Rattle.interp.proofs.Area.{area_kept}
use Rattle.std.proofs.lemmas.Option.{slice_get_within}
use Rattle.mem_model.specs.Next.{Next}
use Rattle.team_model.specs.declared.Stand.TheVariants.{Runs}
use Rattle.thread_state.specs.Seen.{thread_seen}
use Rattle.interp.specs.declared.shared.TeamShared.{TeamShared as SharedData}
use Rattle.interp.specs.Events.{shared_seen}
use Rattle.interp.proofs.Happens.{made_ok, made_err, pending_of, team_step}
use Rattle.interp.proofs.Recorded.{popped}
use Rattle.interp.proofs.events.event.Goals as goal

pub make_pending-requires-clause-there : goal.make_pending-requires-clause-there
make_pending-requires-clause-there c = slice_get_within c.args.sh.now.stands c.args.thread Runs c.requires.runs

pub returns-in-Ok : goal.returns-in-Ok
returns-in-Ok c =
    let m = c.args.m.now in
    let s = c.args.s.now in
    let sh = c.args.sh.now in
    let p = pending_of (Next m (thread_seen m s)) c.requires.pending in
    let makes = made_ok m c.args.thread _ c.make_pending.new.sh s c.make_pending.new.s p.0 c.make_pending.result c.in-Ok.is (c.make_pending.ensures p.0 p.1) in
    record {
      thread = makes.thread;
      area = λ a. subst IsArea (sym (ap (λ (z : TeamShared). z.common.memory) makes.shared)) (area_kept m (shared_seen sh) c.args.thread (thread_seen m s) p.0 a);
      step = team_step m c.args.thread (shared_seen sh) (shared_seen c.make_pending.new.sh) (thread_seen m s) (thread_seen m c.make_pending.new.s) p.0 p.1 c.requires.goes c.requires.runs makes.shared makes.state;
      answer_is = c.answer.ensures;
      history = makes.history ∙ c.in_ok-push.ensures.ok;
    }

pub returns-in-Err : goal.returns-in-Err
returns-in-Err c =
    let m = c.args.m.now in
    let s = c.args.s.now in
    let sh = c.args.sh.now in
    let p = pending_of (Next m (thread_seen m s)) c.requires.pending in
    let same = made_err m c.args.thread _ c.make_pending.new.sh s c.make_pending.new.s p.0 c.make_pending.result c.in-Err.field-0 c.in-Err.is (c.make_pending.ensures p.0 p.1) in
    let history = popped c.pop.result c.make_pending.new.sh.history c.pop.new.self sh.history _ c.pop.ensures (ap (λ (z : SharedData). z.history) same.0 ∙ c.in_ok-push.ensures.ok) in
    (λ j. record (same.0 j) { history = history j }, same.1)
