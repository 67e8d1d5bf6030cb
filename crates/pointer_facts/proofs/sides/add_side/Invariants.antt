use Rattle.pointer_facts.specs.SideHops.{IsHopBefore, AddsHops}
use Rattle.pointer_facts.proofs.sides.add_side.Given as goal

abbrev pub invariant-loop-function : goal.invariant-loop-function
invariant-loop-function l = AddsHops (IsHopBefore l.m l.side l.function) l.initial.hops l.hops
