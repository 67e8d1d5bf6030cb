use Rattle.std.proofs.Common.{◌≡◌, ◌++◌, take}
use Rattle.std.specs.List.{flat_map}
use Rattle.shapes.specs.Insts.{insts_seen}
use Rattle.register_hops.specs.Roots.{inst_roots}
use Rattle.register_hops.proofs.roots.add_insts.Given as goal

abbrev pub invariant-loop-inst : goal.invariant-loop-inst
invariant-loop-inst l = l.roots ≡ l.initial.roots ++ flat_map (inst_roots l.numbering l.origin l.at) (insts_seen (take l.inst-index l.insts))
