use Rattle.mem_model.proofs.Runs.{covers_chain}
use Rattle.mem_model.proofs.covering.covers_chain.Goals as goal

pub returns : goal.returns
returns g c = covers_chain g.A.Behaves.comes g.B.Behaves.comes g.C.Behaves.comes
