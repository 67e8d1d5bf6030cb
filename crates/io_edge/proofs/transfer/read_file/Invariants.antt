use Rattle.std.proofs.Common.{◌≡◌, ◌≢◌, ℕ, List, ◌≤◌, ◌-◌, length, take, IfSome}
use Rattle.io_edge.proofs.transfer.read_file.Given as goal

abbrev pub invariant-loop-filled : goal.invariant-loop-filled
invariant-loop-filled g l = record {
  serves : (other : List ℕ) → g.I.Inputs.served l.fn.inputs other → g.I.Inputs.served l.inputs other;
  same : (other : List ℕ) → g.I.Inputs.held l.inputs other ≡ g.I.Inputs.held l.fn.inputs other;
  others : (other : List ℕ) → other ≢ l.name → g.I.Inputs.faults l.inputs other ≡ g.I.Inputs.faults l.fn.inputs other;
  filled : l.filled ≤ length l.bytes.items;
  few : length l.bytes.items ≤ l.limit;
  within : l.filled ≤ l.limit;
  front : IfSome (g.I.Inputs.held l.fn.inputs l.name) (λ content. take l.filled l.bytes.items ≡ take l.filled content);
  later : g.I.Inputs.faults l.fn.inputs l.name ≤ g.I.Inputs.faults l.inputs l.name;
}

abbrev pub decreases-loop-filled : goal.decreases-loop-filled
decreases-loop-filled g l = l.limit - l.filled
