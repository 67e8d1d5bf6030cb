use Rattle.std.proofs.Common.{take}
use Rattle.std.specs.List.{flat_map}
use Rattle.shapes.specs.Insts.{insts_seen}
use Rattle.call_graph.specs.Graphs.{Adds}
use Rattle.call_graph.specs.Targets.{forked}
use Rattle.call_paths.proofs.running.add_forks.Given as goal

abbrev pub invariant-loop-inst : goal.invariant-loop-inst
invariant-loop-inst l = Adds l.from (flat_map (forked l.m) (insts_seen (take l.inst-index l.insts))) l.initial.graph l.graph
