use Rattle.std.proofs.Common.{◌≡◌, take}
use Rattle.register_hops.specs.Placed.{by_place}
use Rattle.register_hops.specs.Hops.{function_hops}
use Rattle.register_hops.proofs.hops.hops_in.Given as goal

abbrev pub invariant-loop-at : goal.invariant-loop-at
invariant-loop-at l = l.hops ≡ by_place (function_hops l.numbering) 0 (take l.at l.functions)
