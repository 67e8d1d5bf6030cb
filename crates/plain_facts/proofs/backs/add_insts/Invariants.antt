use Rattle.std.proofs.Common.{◌≡◌, ◌++◌, take}
use Rattle.std.specs.List.{flat_map}
use Rattle.shapes.specs.Insts.{insts_seen}
use Rattle.plain_facts.specs.Backs.{inst_backs}
use Rattle.plain_facts.proofs.backs.add_insts.Given as goal

abbrev pub invariant-loop-inst : goal.invariant-loop-inst
invariant-loop-inst l = l.hops ≡ l.initial.hops ++ flat_map (inst_backs l.numbering l.at) (insts_seen (take l.inst-index l.insts))
