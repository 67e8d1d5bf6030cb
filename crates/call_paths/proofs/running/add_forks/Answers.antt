use Rattle.std.proofs.Common.{◌<◌, ◌+◌, ℕ, List, length, take, ap, sym, subst, ◌∙◌, arith}
use Rattle.std.specs.List.{flat_map}
use Rattle.shapes.specs.Insts.{inst_seen, insts_seen}
use Rattle.call_graph.specs.Graphs.{Adds}
use Rattle.call_graph.specs.Targets.{as_list, forked}
use Rattle.call_graph.proofs.GraphLaws.{given_none, given_one}
use Rattle.call_paths.proofs.RunLaws.{forked_within}
use Rattle.call_paths.proofs.running.add_forks.Goals as goal
use Rattle.call_paths.proofs.running.add_forks.Goals.{in-Some+in_ok-add, in_default}

pub add-requires-clause-to : goal.add-requires-clause-to
add-requires-clause-to c =
    let low = forked_within c.args.m.now (inst_seen c.inst-item.result) c.in-Some.to (ap as_list (sym c.in-Some.is) ∙ c.forked.ensures) in
    let size = c.loop-inst.invariant.size in
    let nodes = c.requires.size in
    omega (arith, low, size, nodes)

pub loop-inst-preserved : goal.loop-inst-preserved
loop-inst-preserved c =
    let m = c.args.m.now in
    let insts = c.args.insts.now in
    let n = c.loop-inst.inst-index in
    let i = c.inst-item.result in
    let mid = c.loop-inst.graph in
    let P : List (List ℕ) → Type 0 = λ g. Adds c.args.from (flat_map (forked m) (insts_seen (take (n + 1) insts))) c.args.graph.now g in
    let size = c.loop-inst.invariant.size in
    let nodes = c.requires.size in
    let below : c.args.from < length mid = omega (arith, c.requires.from, size, nodes) in
    elim c.match-forked.branch [
      | in-Some+in_ok-add w ↦
          subst P (sym w.graph-is)
          (given_one (forked m) c.args.from insts n i c.loop-inst-test.true c.inst-item.is c.args.graph.now mid w.add.new.self w.in-Some.to below (ap as_list (sym w.in-Some.is) ∙ c.forked.ensures) w.in_ok-add.ensures.ok c.loop-inst.invariant)
      | in_default w ↦
          subst P (sym w.graph-is)
          (given_none (forked m) c.args.from insts n i c.loop-inst-test.true c.inst-item.is c.args.graph.now mid (ap as_list (sym w.in_default.is) ∙ c.forked.ensures) c.loop-inst.invariant)
    ]
