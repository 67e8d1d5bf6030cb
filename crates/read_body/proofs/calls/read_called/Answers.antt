use Rattle.read_body.proofs.Laws.{argument_shrinks}
use Rattle.read_body.proofs.calls.read_called.Goals as goal

pub read_list-requires : goal.read_list-requires
read_list-requires c = argument_shrinks
