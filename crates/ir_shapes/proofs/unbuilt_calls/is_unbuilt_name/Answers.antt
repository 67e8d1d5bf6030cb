use Rattle.std.proofs.Common.{ap, ◌∙◌, not}
use Rattle.ir_shapes.proofs.EntryLaws.{named, unnamed}
use Rattle.ir_shapes.proofs.unbuilt_calls.is_unbuilt_name.Goals as goal

pub returns-in-None : goal.returns-in-None
returns-in-None c = unnamed c.args.name.now c.in-None.ensures

pub returns-in-Some : goal.returns-in-Some
returns-in-Some c = ap not c.is_built.ensures ∙ named c.args.name.now c.in-Some.entry_point c.in-Some.ensures
