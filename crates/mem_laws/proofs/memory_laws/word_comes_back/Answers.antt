use Rattle.mem_model.proofs.WordLaws.{word_back}
use Rattle.mem_laws.proofs.memory_laws.word_comes_back.Goals as goal

pub returns : goal.returns
returns c = word_back
