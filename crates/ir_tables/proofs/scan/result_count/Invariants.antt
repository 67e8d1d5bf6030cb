use Rattle.std.proofs.Common.{◌≡◌, ◌≤◌, ◌+◌, length, drop}
use Rattle.std.specs.List.{flat_map}
use Rattle.ir_core.specs.Places.{inst_results}
use Rattle.ir_tables.proofs.scan.result_count.Given as goal

abbrev pub invariant-loop-inst : goal.invariant-loop-inst
invariant-loop-inst l = record {
  few : l.count ≤ l.inst-index;
  rest : l.count + length (flat_map inst_results (drop l.inst-index l.insts)) ≡ length (flat_map inst_results l.insts);
}
