use Rattle.std.proofs.Common.{◌≤◌, ◌-◌}
use Rattle.thread_state.specs.Seen.{thread_seen, IsThread}
use Rattle.interp_local.specs.Runs.{LocalRun}
use Rattle.interp_local.proofs.run.local_run.Given as goal

abbrev pub invariant-loop-steps : goal.invariant-loop-steps
invariant-loop-steps l = record {
  thread : IsThread l.m l.s;
  run : LocalRun l.m (thread_seen l.m l.initial.s) l.steps (thread_seen l.m l.s);
  within : l.steps ≤ l.limit;
}

abbrev pub decreases-loop-steps : goal.decreases-loop-steps
decreases-loop-steps l = l.limit - l.steps
