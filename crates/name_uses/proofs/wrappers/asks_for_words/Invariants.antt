use Rattle.std.proofs.Common.{◌≡◌, drop}
use Rattle.std.specs.List.{flat_map}
use Rattle.ir_core.specs.Wrappers.{is_in, get_shared_variables, block_callees}
use Rattle.name_uses.proofs.wrappers.asks_for_words.Given as goal

abbrev pub invariant-loop-block : goal.invariant-loop-block
invariant-loop-block l = is_in (flat_map block_callees (drop l.block-index l.f.blocks)) get_shared_variables ≡ is_in (flat_map block_callees l.f.blocks) get_shared_variables
