use Rattle.std.proofs.Common.{◌≡◌, ◌-◌, ◌≤◌, length, take}
use Rattle.std.specs.List.{flat_map}
use Rattle.shapes.specs.Limits.{block_limit}
use Rattle.shape_limits.specs.Counts.{block_lines}
use Rattle.shape_limits.proofs.counts.of_blocks.Given as goal

abbrev pub invariant-loop-f : goal.invariant-loop-f
invariant-loop-f l = (l.left ≡ block_limit - length (flat_map block_lines (take l.f-index l.functions))) × (length (flat_map block_lines (take l.f-index l.functions)) ≤ block_limit)
