use Rattle.std.proofs.Common.{◌≡◌, take}
use Rattle.std.specs.List.{flat_map}
use Rattle.plain_facts.specs.Backs.{hop_roots}
use Rattle.plain_facts.proofs.backs.roots_of.Given as goal

abbrev pub invariant-loop-hop : goal.invariant-loop-hop
invariant-loop-hop l = l.roots ≡ flat_map (hop_roots l.own) (take l.hop-index l.hops)
