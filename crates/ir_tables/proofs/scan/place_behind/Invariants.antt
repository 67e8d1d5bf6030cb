use Rattle.std.proofs.Common.{◌≡◌, ◌+◌, length, drop}
use Rattle.std.specs.List.{flat_map}
use Rattle.ir_core.specs.Places.{place_from, block_results}
use Rattle.ir_tables.proofs.scan.place_behind.Given as goal

-- the place among the rest is the place among all
abbrev pub invariant-loop-block : goal.invariant-loop-block
invariant-loop-block l = record {
  count : l.from + length (flat_map block_results (drop l.block-index l.blocks)) ≡ l.before + length (flat_map block_results l.blocks);
  rest : place_from l.from (flat_map block_results (drop l.block-index l.blocks)) l.name ≡ place_from l.before (flat_map block_results l.blocks) l.name;
}
