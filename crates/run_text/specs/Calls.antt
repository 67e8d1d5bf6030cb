-- Blocks that call a function.
use Rattle.std.specs.Prelude.{List, [], ◌∷◌, Bool, true, false, if◌then◌else◌}
use Rattle.ir_core.specs.declared.module.Block.{Block}
use Rattle.ir_core.specs.EntryPoints.{target_init}
use Rattle.ir_core.specs.Wrappers.{is_in, block_callees}

abbrev pub block_calls : Block → Bool
block_calls b = is_in (block_callees b) target_init

abbrev pub any_block : (Block → Bool) → List Block → Bool
any_block calls [] = false
any_block calls (b ∷ bs) = if calls b then true else any_block calls bs
