use Rattle.std.proofs.Common.{sym, ◌∙◌}
use Rattle.io_edge.proofs.Kept.{others_stay}
use Rattle.io_edge.proofs.real.FileInputsInputs.read.Goals as goal

pub returns-in-Some-clause-others : goal.returns-in-Some-clause-others
returns-in-Some-clause-others g c =
    others_stay c.args.self.now.words.now c.args.self.now.counts c.in-Some.index c.saturating_add.result c.args.name.now (sym c.place_of.ensures ∙ c.in-Some.is)
