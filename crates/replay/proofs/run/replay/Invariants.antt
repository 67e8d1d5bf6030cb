use Rattle.std.proofs.Common.{◌≡◌, ◌+◌, drop}
use Rattle.interp.specs.Teams.{team_seen, IsTeam}
use Rattle.replay.specs.Turns.{turns, replayed}
use Rattle.replay.proofs.run.replay.Given as goal

abbrev pub invariant-loop-at : goal.invariant-loop-at
invariant-loop-at l = record {
  threads : IsTeam l.m l.team;
  same : replayed l.m l.steps (turns 1 l.pairs) (team_seen l.m l.fn.team) ≡ replayed l.m l.left (turns (l.at + 1) (drop l.at l.pairs)) (team_seen l.m l.team);
}
