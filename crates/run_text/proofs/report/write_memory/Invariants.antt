use Rattle.std.proofs.Common.{◌≡◌, ◌++◌, take}
use Rattle.std.specs.List.{flat_map}
use Rattle.run_text.specs.ReportText.{shown_line}
use Rattle.run_text.proofs.report.write_memory.Given as goal

abbrev pub invariant-loop-shown : goal.invariant-loop-shown
invariant-loop-shown l = l.out ≡ l.initial.out ++ flat_map (shown_line l.m) (take l.shown-index l.memory)
