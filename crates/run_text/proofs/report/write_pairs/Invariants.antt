use Rattle.std.proofs.Common.{◌≡◌, ◌++◌, take}
use Rattle.std.specs.List.{flat_map}
use Rattle.run_text.specs.ReportText.{pair_line}
use Rattle.run_text.proofs.report.write_pairs.Given as goal

abbrev pub invariant-loop-pair : goal.invariant-loop-pair
invariant-loop-pair l = l.out ≡ l.initial.out ++ flat_map (pair_line l.mode l.threads) (take l.pair-index l.pairs)
