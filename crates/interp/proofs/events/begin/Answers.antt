use Rattle.std.proofs.Common.{Ok, Err, sym, ap, ◌∙◌}
use Rattle.mem_model.specs.Next.{Next, result_of, line_of, frames_line}
use Rattle.thread_state.specs.Seen.{thread_seen}
use Rattle.interp_local.specs.Actions.{arguments}
use Rattle.interp_local.proofs.Nexts.{at_inst, served, next_decided, stands_long}
use Rattle.interp.proofs.Happens.{no_trap}
use Rattle.interp.proofs.events.begin.Goals as goal

pub unreachable-requires-in_default-decide : goal.unreachable-requires-in_default-decide
unreachable-requires-in_default-decide c =
    let m = c.args.m.now in
    let s = c.args.s.now in
    let i = c.in-Some.inst.now in
    let is = sym c.in-Some.ensures.value in
    no_trap (Next m (thread_seen m s)) c.in_default-decide.field-0 c.requires.pending
    (next_decided m s (at_inst m s i c.requires.begins is) i (Err c.in_default-decide.field-0) is (served m s i c.requires.served is) (sym c.in_default-decide.is ∙ c.decide.ensures.value))

pub decide-requires-clause-served : goal.decide-requires-clause-served
decide-requires-clause-served c = served c.args.m.now c.args.s.now c.in-Some.inst.now c.requires.served (sym c.in-Some.ensures.value)

pub returns : goal.returns
returns c = λ e next.
    let m = c.args.m.now in
    let s = c.args.s.now in
    let i = c.in-Some.inst.now in
    let is = sym c.in-Some.ensures.value in
    let a = at_inst m s i c.requires.begins is in
    let decided = sym c.in-Ok.is ∙ c.decide.ensures.value in
    let stands = a.place_is ∙ is in
    c.happen.ensures i.result a.f a.rest (arguments i.kind) e
    (record {
      knows = record { is = c.requires.state; frames = a.frames; place = c.result_place.ensures };
      result = sym (ap result_of stands);
      line = sym (ap (frames_line m) a.frames ∙ ap line_of stands);
    })
    (stands_long m s i c.in-Ok.action is decided)
    (next_decided m s a i (Ok c.in-Ok.action) is (served m s i c.requires.served is) decided ∙ next)
