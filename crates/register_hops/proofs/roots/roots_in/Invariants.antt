use Rattle.std.proofs.Common.{◌≡◌, take}
use Rattle.register_hops.specs.Placed.{by_place}
use Rattle.register_hops.specs.Roots.{function_roots}
use Rattle.register_hops.proofs.roots.roots_in.Given as goal

abbrev pub invariant-loop-at : goal.invariant-loop-at
invariant-loop-at l = l.roots ≡ by_place (function_roots l.numbering l.origin) 0 (take l.at l.functions)
