use Rattle.std.proofs.Common.{◌∙◌, Ok, subst}
use Rattle.ir_core.specs.MachineOff.{machine_off}
use Rattle.interp.specs.Teams.{IsTeam}
use Rattle.run_text.proofs.ReadFronts.{few_pairs}
use Rattle.opt_core.proofs.ReplayAnswers.{threads_alike, schedule_reply}
use Rattle.opt_core.proofs.replay_reply.reply_of.Goals as goal

pub replayed-requires-clause-threads : goal.replayed-requires-clause-threads
replayed-requires-clause-threads c = subst (λ n. IsTeam n c.in_ok-team.team) c.indexed.ensures.same c.in_ok-team.ensures.team

pub replayed-requires-clause-lines : goal.replayed-requires-clause-lines
replayed-requires-clause-lines c = few_pairs c.in_ok-threads.threads c.args.text.now c.in-Ok.pairs c.in-Ok.ensures

pub returns-in-Ok : goal.returns-in-Ok
returns-in-Ok c =
    let m = c.args.m.now in
    let l = c.args.l.now in
    let n = c.in_ok-threads.threads in
    let alike = threads_alike c.indexed.result.now (machine_off m) l c.in_ok-team.team n (c.indexed.ensures.same ∙ c.requires.out) c.in_ok-team.ensures.state c.in_ok-threads.ensures in
    schedule_reply m l c.args.text.now n alike (Ok c.in-Ok.pairs) c.replayed.result c.in-Ok.ensures c.replayed.ensures
