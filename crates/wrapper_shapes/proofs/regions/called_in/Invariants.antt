use Rattle.std.proofs.Common.{◌≡◌, drop}
use Rattle.std.specs.List.{flat_map}
use Rattle.ir_core.specs.Wrappers.{defined, first_of, inst_callees}
use Rattle.wrapper_shapes.proofs.regions.called_in.Given as goal

abbrev pub invariant-loop-inst : goal.invariant-loop-inst
invariant-loop-inst l = first_of (flat_map (defined l.m.functions) (flat_map inst_callees (drop l.inst-index l.insts))) ≡ first_of (flat_map (defined l.m.functions) (flat_map inst_callees l.insts))
