use Rattle.std.proofs.Common.{◌≡◌, map, drop}
use Rattle.ir_core.specs.EntryPoints.{entry_name, entry_points, is_among}
use Rattle.ir_core.proofs.rtl.Rtl.of.Given as goal

-- the answer for the rest is the answer for all
abbrev pub invariant-loop-entry_point : goal.invariant-loop-entry_point
invariant-loop-entry_point l = record {
  all : l.entry_point-items ≡ entry_points;
  rest : is_among (map entry_name (drop l.entry_point-index l.entry_point-items)) l.name ≡ is_among (map entry_name entry_points) l.name;
}
