use Rattle.std.proofs.Common.{rules, tests, ◌∙◌}
use Rattle.std.specs.List.{list_any}
use Rattle.std.proofs.lemmas.Iterator.{YieldsList-from_slice}
use Rattle.std.proofs.lemmas.Iterator.Search.{any_from_yields_List}
use Rattle.ir_core.specs.declared.module.Block.{Block}
use Rattle.ir_core.specs.declared.rtl.Rtl.TheVariants.{Parallel}
use Rattle.shapes.specs.Facts.{is_call_of}
use Rattle.shapes.specs.Insts.{block_insts}
use Rattle.shape_facts.proofs.KernelLaws.{any_in_parts}
use Rattle.call_paths.proofs.regions.has_fork.Goals as goal

pub returns : goal.returns
returns c =
    let blocks = c.args.f.now.blocks in
    any_from_yields_List (λ (b : Block). list_any (is_call_of Parallel) (block_insts b)) _ _ _ c.any.ensures.ran (YieldsList-from_slice blocks cc) (λ x b q k. search (rules, tests))
    ∙ any_in_parts (is_call_of Parallel) block_insts blocks
