use Rattle.std.proofs.Common.{◌≡◌, ◌++◌, take}
use Rattle.std.specs.List.{flat_map}
use Rattle.shapes.specs.Insts.{insts_seen}
use Rattle.plain_facts.specs.Uses.{inst_uses}
use Rattle.plain_facts.proofs.uses.add_insts.Given as goal

abbrev pub invariant-loop-inst : goal.invariant-loop-inst
invariant-loop-inst l = l.uses ≡ l.initial.uses ++ flat_map (inst_uses l.numbering l.at) (insts_seen (take l.inst-index l.insts))
