use Rattle.std.proofs.Common.{◌≡◌, ◌++◌, drop, map}
use Rattle.mem_model.specs.Launching.{buffer_names}
use Rattle.replay.specs.Reports.{shown}
use Rattle.replay.proofs.report.show_buffers.Given as goal

abbrev pub invariant-loop-at : goal.invariant-loop-at
invariant-loop-at l = l.out ++ map (shown l.memory) (buffer_names l.at (drop l.at l.args)) ≡ l.fn.out ++ map (shown l.memory) (buffer_names 0 l.args)
