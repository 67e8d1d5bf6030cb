use Rattle.std.proofs.Common.{◌≡◌, drop, length, map}
use Rattle.ir_core.specs.EntryPoints.{scalar_type}
use Rattle.ir_core.specs.NameRefusals.{are_declared}
use Rattle.item_names.proofs.headings.are_declared.Given as goal

-- the answer for the rest is the answer for all
abbrev pub invariant-loop-i : goal.invariant-loop-i
invariant-loop-i l = record {
  even : length l.wanted ≡ length l.params;
  rest : are_declared (map scalar_type (drop l.i l.wanted)) (drop l.i l.params) ≡ are_declared (map scalar_type l.wanted) l.params;
}
