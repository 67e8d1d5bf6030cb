use Rattle.std.proofs.Common.{◌≡◌, take}
use Rattle.std.specs.List.{flat_map}
use Rattle.ir_tables.specs.Names.{names_seen}
use Rattle.register_hops.specs.Roots.{callees_if_wrapper}
use Rattle.register_hops.proofs.regions.called_by_wrappers.Given as goal

abbrev pub invariant-loop-f : goal.invariant-loop-f
invariant-loop-f l = names_seen l.names ≡ flat_map (callees_if_wrapper l.m) (take l.f-index l.f-items)
