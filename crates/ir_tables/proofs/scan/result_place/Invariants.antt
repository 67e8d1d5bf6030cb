use Rattle.std.proofs.Common.{◌≡◌, ◌≤◌, drop}
use Rattle.std.specs.List.{flat_map}
use Rattle.ir_core.specs.Places.{place_from, place_in, inst_results}
use Rattle.ir_tables.proofs.scan.result_place.Given as goal

-- the place among the rest is the place among all
abbrev pub invariant-loop-inst : goal.invariant-loop-inst
invariant-loop-inst l = record {
  few : l.at ≤ l.inst-index;
  rest : place_from l.at (flat_map inst_results (drop l.inst-index l.insts)) l.name ≡ place_in (flat_map inst_results l.insts) l.name;
}
