use Rattle.std.proofs.Common.{◌≡◌, take}
use Rattle.std.specs.List.{flat_map}
use Rattle.ir_core.specs.Typing.{edge, scope_of}
use Rattle.name_tables.specs.Least.{least_of}
use Rattle.ir_names.proofs.phis.each_edge.Given as goal

abbrev pub invariant-loop-item : goal.invariant-loop-item
invariant-loop-item l = l.found ≡ least_of (flat_map (edge (scope_of l.s.0 l.s.1) l.ty) (take l.item-index l.edges))
