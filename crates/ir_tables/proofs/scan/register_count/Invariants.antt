use Rattle.std.proofs.Common.{◌≡◌, ◌+◌, Some, length, drop}
use Rattle.std.specs.List.{flat_map}
use Rattle.ir_core.specs.Places.{block_results, register_names_of}
use Rattle.ir_tables.proofs.scan.register_count.Given as goal

abbrev pub invariant-loop-block : goal.invariant-loop-block
invariant-loop-block l = l.count + length (flat_map block_results (drop l.block-index l.f.blocks)) ≡ length (register_names_of (Some l.f))
