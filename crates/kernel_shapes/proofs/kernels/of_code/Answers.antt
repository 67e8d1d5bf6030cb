use Rattle.std.proofs.Common.{◌≡◌, option_map, ap, ◌∙◌}
use Rattle.std.specs.List.{flat_map}
use Rattle.ir_core.specs.NameRefusals.{least}
use Rattle.name_tables.specs.Least.{or_first}
use Rattle.shape_facts.proofs.InstLaws.{four_told}
use Rattle.shapes.specs.Facts.{first_insts}
use Rattle.shapes.specs.KernelShape.{shaped, has_heading, opening, of_opening, ways_of, kernel_ways, of_exit, of_block}
use Rattle.kernel_shapes.specs.Kernels.{has_heading as heading_of}
use Rattle.kernel_shapes.specs.Seen.{ways_seen}
use Rattle.kernel_shapes.proofs.kernels.of_code.Goals as goal

pub returns : goal.returns
returns c = λ m uses.
    let f = c.args.f.now in
    let first = c.first_insts-first.ensures ∙ ap first_insts c.as_slice-all.ensures in
    let ways : option_map ways_seen c.ways_of-ways.result ≡ kernel_ways f = c.ways_of-ways.ensures ∙ ap (λ is. ways_of (opening is)) first in
    c.earlier.ensures
    ∙ ap (or_first c.rule-heading.result) (c.earlier-behind.ensures ∙ ap (or_first _) c.earlier-ends.ensures)
    ∙ four_told (shaped (has_heading m f) f.line) (of_opening f.line (first_insts f.blocks) (opening (first_insts f.blocks))) (of_exit f (kernel_ways f)) (flat_map (of_block (kernel_ways f)) f.blocks)
    c.rule-heading.result _ c.of_exit-exit.result c.of_blocks-blocks.result
    (c.rule-heading.ensures ∙ ap (λ b. least (shaped b f.line)) (c.has_heading.ensures m uses ∙ ap (heading_of m f) c.requires))
    (c.in_ok-opening.ensures ∙ ap (λ is. least (of_opening f.line is (opening is))) first)
    (c.of_exit-exit.ensures ∙ ap (λ w. least (of_exit f w)) ways)
    (c.of_blocks-blocks.ensures ∙ ap (λ w. least (flat_map (of_block w) c.as_slice-all.result.now)) ways ∙ ap (λ bs. least (flat_map (of_block (kernel_ways f)) bs)) c.as_slice-all.ensures)
