use Rattle.std.proofs.Common.{length}
use Rattle.call_paths.specs.Runs.{Reaches}
use Rattle.call_paths.proofs.RowLaws.{mark_read}
use Rattle.call_paths.proofs.calls.Calls.reaches.Goals as goal

pub returns : goal.returns
returns c m are low = mark_read (Reaches m) (length m.functions) c.args.self.now.reaches are.reaches c.args.from c.args.to c.is_marked_in.result (λ h. low) c.is_marked_in.ensures
