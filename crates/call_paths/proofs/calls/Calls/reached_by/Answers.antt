use Rattle.std.proofs.Common.{length}
use Rattle.call_graph.proofs.SideLaws.{kernel_within}
use Rattle.call_paths.specs.Runs.{Runs}
use Rattle.call_paths.proofs.RowLaws.{mark_read}
use Rattle.call_paths.proofs.calls.Calls.reached_by.Goals as goal

pub returns : goal.returns
returns c m are = mark_read (Runs m) (length m.functions) c.args.self.now.runs are.runs c.args.kernel c.args.at c.is_marked_in.result (λ h. kernel_within m c.args.kernel h.0) c.is_marked_in.ensures
