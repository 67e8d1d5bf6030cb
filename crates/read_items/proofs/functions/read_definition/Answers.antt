use Rattle.read_items.proofs.FunctionLaws.{param_shrinks}
use Rattle.read_items.proofs.functions.read_definition.Goals as goal

pub read_list-requires : goal.read_list-requires
read_list-requires c = param_shrinks
