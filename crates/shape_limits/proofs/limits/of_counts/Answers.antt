use Rattle.std.proofs.Common.{map, ap, ◌∙◌}
use Rattle.std.specs.List.{flat_map}
use Rattle.ir_core.specs.NameRefusals.{least}
use Rattle.shapes.specs.Limits.{beyond, function_limit, block_limit, instruction_limit}
use Rattle.shape_facts.proofs.InstLaws.{three_told}
use Rattle.name_tables.specs.Least.{or_first}
use Rattle.shape_limits.specs.Counts.{function_line, inst_line, block_lines}
use Rattle.shape_limits.proofs.limits.of_counts.Goals as goal

pub returns : goal.returns
returns c =
    let m = c.args.m.now in
    let functions = c.of_functions.ensures ∙ ap (λ fs. least (beyond function_limit (map function_line fs))) c.as_slice-functions.ensures in
    let blocks = c.of_blocks.ensures ∙ ap (λ fs. least (beyond block_limit (flat_map block_lines fs))) c.as_slice-functions.ensures in
    let insts = c.of_insts.ensures ∙ ap (λ is. least (beyond instruction_limit (map inst_line is))) c.requires in
    c.earlier-2.ensures ∙ ap (or_first c.of_functions.result) c.earlier.ensures
    ∙ three_told (beyond function_limit (map function_line m.functions)) (beyond block_limit (flat_map block_lines m.functions)) _ c.of_functions.result c.of_blocks.result c.of_insts.result functions blocks insts
