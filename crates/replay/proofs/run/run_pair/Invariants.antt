use Rattle.std.proofs.Common.{◌≡◌, ◌++◌, ◌+◌, ◌-◌, List}
use Rattle.interp.specs.Teams.{team_seen, IsTeam}
use Rattle.replay.specs.Turns.{Turn, turns_from, replayed}
use Rattle.replay.proofs.run.run_pair.Given as goal

abbrev pub invariant-loop-step : goal.invariant-loop-step
invariant-loop-step l = record {
  threads : IsTeam l.m l.team;
  same : (rest : List Turn) → replayed l.m l.bound (turns_from l.pair.thread l.line 1 l.pair.count ++ rest) (team_seen l.m l.fn.team) ≡ replayed l.m l.left (turns_from l.pair.thread l.line (l.step + 1) (l.pair.count - l.step) ++ rest) (team_seen l.m l.team);
}
