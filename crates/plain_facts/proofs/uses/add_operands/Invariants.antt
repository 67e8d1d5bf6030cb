use Rattle.std.proofs.Common.{◌≡◌, ◌++◌, take}
use Rattle.std.specs.List.{flat_map}
use Rattle.plain_facts.specs.Uses.{operand_uses}
use Rattle.plain_facts.proofs.uses.add_operands.Given as goal

abbrev pub invariant-loop-operand : goal.invariant-loop-operand
invariant-loop-operand l = l.uses ≡ l.initial.uses ++ flat_map (operand_uses l.numbering l.at l.release) (take l.operand-index l.operands)
