use Rattle.std.proofs.Common.{◌∙◌}
use Rattle.std.specs.List.{flat_map}
use Rattle.shapes.specs.Limits.{of_captures, of_size, kind_types}
use Rattle.shape_facts.proofs.InstLaws.{two_told}
use Rattle.shape_limits.proofs.limits.of_inst.Goals as goal

pub returns : goal.returns
returns c =
    let m = c.args.m.now in
    let i = c.args.inst.now in
    c.earlier.ensures ∙ two_told (of_captures i) (flat_map (of_size m i.line) (kind_types i.kind)) c.of_captures.result c.of_kind.result c.of_captures.ensures c.of_kind.ensures
