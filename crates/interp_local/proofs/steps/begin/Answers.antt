use Rattle.std.proofs.Common.{Ok, Err, sym, ◌∙◌}
use Rattle.mem_model.specs.Next.{Next}
use Rattle.thread_state.specs.Seen.{thread_seen}
use Rattle.interp_local.specs.Actions.{TakesRoom}
use Rattle.interp_local.specs.Steps.{StandsAtTaking}
use Rattle.interp_local.proofs.Nexts.{at_inst, served, next_decided, refused_trap, stands_taking, stands_long, tried_as}
use Rattle.interp_local.proofs.steps.begin.Goals as goal

pub decide-requires-clause-served : goal.decide-requires-clause-served
decide-requires-clause-served c = served c.args.m.now c.args.s.now c.args.inst.now c.requires.served (c.requires.stands)

pub returns-in-Err : goal.returns-in-Err
returns-in-Err c =
    let m = c.args.m.now in
    let s = c.args.s.now in
    let i = c.args.inst.now in
    let is = c.requires.stands in
    let a = at_inst m s i c.requires.begins is in
    refused_trap (StandsAtTaking m (thread_seen m s)) m s (Next m (thread_seen m s)) c.in-Err.trap c.requires.thread
    (next_decided m s a i (Err c.in-Err.trap) is (served m s i c.requires.served is) (sym c.in-Err.is ∙ c.decide.ensures.value))

pub returns-in-Ok : goal.returns-in-Ok
returns-in-Ok c =
    let m = c.args.m.now in
    let s = c.args.s.now in
    let i = c.args.inst.now in
    let is = c.requires.stands in
    let a = at_inst m s i c.requires.begins is in
    let decided = sym c.in-Ok.is ∙ c.decide.ensures.value in
    tried_as (TakesRoom c.in-Ok.action) (StandsAtTaking m (thread_seen m s)) m s c.perform.new.s _ (Next m (thread_seen m s)) c.perform.result
    (stands_taking m s a i c.in-Ok.action is decided)
    (next_decided m s a i (Ok c.in-Ok.action) is (served m s i c.requires.served is) decided)
    (c.perform.ensures a.f a.rest a.frames)

pub perform-requires-clause-long : goal.perform-requires-clause-long
perform-requires-clause-long c = stands_long c.args.m.now c.args.s.now c.args.inst.now c.in-Ok.action c.requires.stands (sym c.in-Ok.is ∙ c.decide.ensures.value)
