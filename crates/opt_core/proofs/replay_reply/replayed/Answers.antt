use Rattle.std.proofs.Common.{sym, subst}
use Rattle.ir_core.specs.MachineOff.{machine_off}
use Rattle.interp.specs.Teams.{IsTeam}
use Rattle.interp_local.specs.Steps.{AreServed}
use Rattle.opt_core.proofs.Served.{are_served}
use Rattle.opt_core.proofs.ReplayAnswers.{starts_alike, run_reply}
use Rattle.opt_core.proofs.replay_reply.replayed.Goals as goal

pub replay-requires-clause-threads : goal.replay-requires-clause-threads
replay-requires-clause-threads c = subst (λ n. IsTeam n c.args.team) (sym c.indexed.ensures.same) c.requires.threads

pub replay-requires-clause-served : goal.replay-requires-clause-served
replay-requires-clause-served c = subst AreServed (sym c.indexed.ensures.same) (are_served c.args.m.now c.args.out.now c.requires.out c.indexed.ensures.rules c.requires.built)

pub returns-in-Ok : goal.returns-in-Ok
returns-in-Ok c =
    let m = c.args.m.now in
    let l = c.args.l.now in
    let alike = starts_alike c.indexed.result.now c.args.out.now (machine_off m) l c.as_slice.result.now c.args.pairs c.args.team c.indexed.ensures.same c.requires.out c.as_slice.ensures c.requires.start in
    run_reply m l c.args.pairs _ c.indexed.result.now c.replay.new.team c.reported.result alike c.in-Ok.ensures.1 c.reported.ensures
