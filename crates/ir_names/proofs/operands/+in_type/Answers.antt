use Rattle.std.proofs.Common.{ap, ◌∙◌}
use Rattle.std.specs.List.{flat_map}
use Rattle.ir_core.specs.Typing.{in_type}
use Rattle.name_tables.specs.Least.{least_of}
use Rattle.ir_names.proofs.KeptLaws.{struct_type}
use Rattle.name_tables.proofs.ConstructLaws.{least_more}
use Rattle.ir_names.proofs.operands.+in_type.Goals as goal

pub in_type-returns-in-Struct : goal.in_type-returns-in-Struct
in_type-returns-in-Struct t c =
    c.in_types.ensures
    ∙ ap (λ fields. least_of (flat_map (in_type c.args.tables.now) fields)) c.as_slice.ensures
    ∙ ap least_of (struct_type c.args.tables.now c.args.ty.now c.in-Struct.fields c.in-Struct.is)

pub in_types-loop-ty-preserved : goal.in_types-loop-ty-preserved
in_types-loop-ty-preserved t c =
    let more = least_more (in_type c.args.tables.now) c.args.tys.now c.loop-ty.ty-index c.ty-item.result c.ty-item.result c.loop-ty-test.true c.ty-item.is in
    cc
