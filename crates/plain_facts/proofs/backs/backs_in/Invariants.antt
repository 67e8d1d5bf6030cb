use Rattle.std.proofs.Common.{◌≡◌, take}
use Rattle.register_hops.specs.Placed.{by_place}
use Rattle.plain_facts.specs.Backs.{function_backs}
use Rattle.plain_facts.proofs.backs.backs_in.Given as goal

abbrev pub invariant-loop-at : goal.invariant-loop-at
invariant-loop-at l = l.hops ≡ by_place (function_backs l.numbering) 0 (take l.at l.functions)
