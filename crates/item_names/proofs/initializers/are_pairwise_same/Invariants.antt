use Rattle.std.proofs.Common.{◌≡◌, drop, length, map}
use Rattle.ir_core.specs.NameRefusals.{are_pairwise_same}
use Rattle.item_names.specs.Parts.{part_type}
use Rattle.item_names.proofs.initializers.are_pairwise_same.Given as goal

-- the answer for the rest is the answer for all
abbrev pub invariant-loop-i : goal.invariant-loop-i
invariant-loop-i l = record {
  even : length l.fields ≡ length l.parts;
  rest : are_pairwise_same (drop l.i l.fields) (map part_type (drop l.i l.parts)) ≡ are_pairwise_same l.fields (map part_type l.parts);
}
