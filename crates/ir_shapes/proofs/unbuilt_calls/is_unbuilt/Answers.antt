use Rattle.std.proofs.Common.{◌∙◌}
use Rattle.ir_shapes.proofs.EntryLaws.{by_kind}
use Rattle.ir_shapes.proofs.unbuilt_calls.is_unbuilt.Goals as goal

pub returns : goal.returns
returns c = c.is_unbuilt_kind.ensures ∙ by_kind c.args.inst.now.kind
