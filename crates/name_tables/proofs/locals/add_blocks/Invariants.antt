use Rattle.std.proofs.Common.{◌≡◌, ◌++◌, take}
use Rattle.ir_core.specs.Given.{block_names}
use Rattle.name_tables.specs.Kept.{all_seen, all_kept}
use Rattle.name_tables.proofs.locals.add_blocks.Given as goal

abbrev pub invariant-loop-at : goal.invariant-loop-at
invariant-loop-at l = all_seen l.names ≡ all_seen l.initial.names ++ all_kept (block_names 0 (take l.at l.blocks))
