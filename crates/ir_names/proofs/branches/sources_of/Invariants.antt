use Rattle.std.proofs.Common.{take}
use Rattle.ir_names.specs.Branches.{HasSources}
use Rattle.ir_names.proofs.branches.sources_of.Given as goal

abbrev pub invariant-loop-block : goal.invariant-loop-block
invariant-loop-block l = HasSources (take l.block-index l.blocks) l.sources
