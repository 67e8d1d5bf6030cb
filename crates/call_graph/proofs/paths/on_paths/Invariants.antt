use Rattle.std.proofs.Common.{◌≡◌, take, map}
use Rattle.call_graph.specs.Targets.{is_on_paths}
use Rattle.call_graph.proofs.paths.on_paths.Given as goal

abbrev pub invariant-loop-f : goal.invariant-loop-f
invariant-loop-f l = l.marks ≡ map (is_on_paths l.m) (take l.f-index l.m.functions)
