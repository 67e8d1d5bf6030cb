use Rattle.std.proofs.Common.{◌≡◌, ◌++◌, drop, map}
use Rattle.mem_model.specs.Launching.{global_names}
use Rattle.replay.specs.Reports.{shown}
use Rattle.replay.proofs.report.show_globals.Given as goal

abbrev pub invariant-loop-at : goal.invariant-loop-at
invariant-loop-at l = l.out ++ map (shown l.memory) (global_names l.at (drop l.at l.globals)) ≡ l.fn.out ++ map (shown l.memory) (global_names 0 l.globals)
