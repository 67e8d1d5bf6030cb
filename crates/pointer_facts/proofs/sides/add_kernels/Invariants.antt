use Rattle.pointer_facts.specs.SideHops.{IsMainHopBefore, AddsHops}
use Rattle.pointer_facts.proofs.sides.add_kernels.Given as goal

abbrev pub invariant-loop-kernel : goal.invariant-loop-kernel
invariant-loop-kernel l = AddsHops (IsMainHopBefore l.m l.kernel) l.initial.hops l.hops
