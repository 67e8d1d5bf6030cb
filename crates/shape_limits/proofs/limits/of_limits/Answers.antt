use Rattle.std.proofs.Common.{ap, ◌∙◌}
use Rattle.std.specs.List.{flat_map}
use Rattle.ir_core.specs.NameRefusals.{least}
use Rattle.shapes.specs.Limits.{of_counts, of_global, of_inst}
use Rattle.shapes.specs.Facts.{insts_in}
use Rattle.name_tables.specs.Least.{or_first}
use Rattle.shape_facts.proofs.InstLaws.{four_told}
use Rattle.shape_limits.specs.Sizes.{of_type}
use Rattle.shape_limits.proofs.limits.of_limits.Goals as goal

pub returns : goal.returns
returns c =
    let m = c.args.m.now in
    let same = c.module-module.ensures in
    let counts = c.of_counts.ensures ∙ ap (λ k. least (of_counts k)) same in
    let types = c.of_types-types.ensures ∙ ap (λ ds. least (flat_map (of_type m) ds)) (c.as_slice-2.ensures ∙ ap (λ k. k.types) same) in
    let globals = c.of_globals-globals.ensures ∙ ap (λ gs. least (flat_map (of_global m) gs)) (c.as_slice.ensures ∙ ap (λ k. k.globals) same) in
    let insts = c.of_all_insts.ensures ∙ ap (λ is. least (flat_map (of_inst m) is)) c.requires in
    c.earlier-2.ensures ∙ ap (or_first c.of_counts.result) (c.earlier-sizes.ensures ∙ ap (or_first c.of_types-types.result) c.earlier.ensures)
    ∙ four_told (of_counts m) (flat_map (of_type m) m.types) (flat_map (of_global m) m.globals) (flat_map (of_inst m) (insts_in m)) c.of_counts.result c.of_types-types.result c.of_globals-globals.result c.of_all_insts.result counts types globals insts
