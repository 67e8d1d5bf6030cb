use Rattle.std.proofs.Common.{arith}
use Rattle.io_edge.proofs.Told.{one_is_distinct}
use Rattle.vectors.proofs.running.one_file.Goals as goal

pub new-requires-2-clause-names : goal.new-requires-2-clause-names
new-requires-2-clause-names c = one_is_distinct c.push.new.self (rw (c.in_ok-push.ensures.ok, c.new-files.ensures) (omega arith))
