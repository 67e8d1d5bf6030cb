use Rattle.std.proofs.Common.{◌≡◌, ◌++◌, take}
use Rattle.register_hops.specs.Roots.{param_roots}
use Rattle.register_hops.proofs.roots.add_params.Given as goal

abbrev pub invariant-loop-place : goal.invariant-loop-place
invariant-loop-place l = l.roots ≡ l.initial.roots ++ param_roots l.numbering l.origin l.at l.kernel l.region (take l.place l.params)
