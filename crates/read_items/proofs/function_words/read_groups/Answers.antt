use Rattle.read_items.proofs.FunctionLaws.{function_word_shrinks}
use Rattle.read_items.proofs.function_words.read_groups.Goals as goal

pub gather-requires-clause-shrinks : goal.gather-requires-clause-shrinks
gather-requires-clause-shrinks c = function_word_shrinks
