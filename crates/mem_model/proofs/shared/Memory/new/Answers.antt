use Rattle.mem_model.proofs.RowLaws.{memory_of_empty}
use Rattle.mem_model.proofs.shared.Memory.new.Goals as goal

pub returns : goal.returns
returns c = memory_of_empty c.new.result c.new.ensures
