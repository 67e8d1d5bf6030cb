use Rattle.std.proofs.Common.{◌≡◌, take}
use Rattle.register_hops.specs.Placed.{by_place}
use Rattle.plain_facts.specs.Uses.{function_uses}
use Rattle.plain_facts.proofs.uses.uses_in.Given as goal

abbrev pub invariant-loop-at : goal.invariant-loop-at
invariant-loop-at l = l.uses ≡ by_place (function_uses l.numbering) 0 (take l.at l.functions)
