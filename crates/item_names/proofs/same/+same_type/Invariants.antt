use Rattle.std.proofs.Common.{◌≡◌, drop, length, map}
use Rattle.ir_core.specs.Given.{same_type, all_same}
use Rattle.item_names.proofs.same.+same_type.Given as goal

-- the answer for the rest is the answer for all
abbrev pub invariant-same_types-loop-i : goal.invariant-same_types-loop-i
invariant-same_types-loop-i l = record {
  even : length l.tys ≡ length l.others;
  rest : all_same (map same_type (drop l.i l.tys)) (drop l.i l.others) ≡ all_same (map same_type l.tys) l.others;
}
