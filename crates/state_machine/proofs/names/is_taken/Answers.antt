use Rattle.std.proofs.Common.{ap, ◌∙◌, is_some}
use Rattle.state_machine.proofs.Frees.{is_placed}
use Rattle.state_machine.proofs.names.is_taken.Goals as goal

pub returns : goal.returns
returns c = λ names is. c.is_some.ensures ∙ ap is_some (c.place.ensures ∙ is.0 c.args.name.now) ∙ is_placed names c.args.name.now
