use Rattle.read_items.proofs.FunctionLaws.{param_type_shrinks}
use Rattle.read_items.proofs.functions.read_declaration.Goals as goal

pub read_list-requires : goal.read_list-requires
read_list-requires c = param_type_shrinks
