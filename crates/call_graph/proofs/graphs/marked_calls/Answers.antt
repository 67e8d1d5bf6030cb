use Rattle.std.proofs.Common.{◌≡◌, ◌+◌, ℕ, List, Some, length, ap, sym, subst, ◌∙◌, slice_get, arith}
use Rattle.std.specs.List.{flat_map}
use Rattle.ir_core.specs.declared.instructions.Inst.{Inst}
use Rattle.ir_core.specs.declared.module.Module.{Module}
use Rattle.shapes.specs.Insts.{insts_seen}
use Rattle.call_graph.specs.Graphs.{IsGraphOf, Adds}
use Rattle.call_graph.specs.Targets.{called}
use Rattle.call_graph.proofs.GraphLaws.{CallsBelow, all_calls, calls_next, calls_passed}
use Rattle.call_graph.proofs.ListLaws.{read_at}
use Rattle.call_graph.proofs.NameLaws.{mark_is}
use Rattle.call_graph.proofs.graphs.marked_calls.Goals as goal
use Rattle.call_graph.proofs.graphs.marked_calls.Goals.{then-paths-from+in_ok-insts+in_ok-add_calls, else-paths-from}

pub loop-from-preserved : goal.loop-from-preserved
loop-from-preserved c =
    let m = c.args.m.now in
    let from = c.loop-from.from in
    let graph = c.loop-from.graph in
    let f = c.index-functions-from.result in
    let all = c.as_slice-functions.ensures ∙ ap (λ (k : Module). k.functions) c.module.ensures in
    let there : slice_get m.functions from ≡ Some f = read_at c.as_slice-functions.result.now m.functions from f all c.loop-from-test.true c.index-functions-from.is in
    let P : List (List ℕ) → Type 0 = λ g. IsGraphOf (CallsBelow m (from + 1)) (length m.functions) g in
    elim c.if-paths-from.branch [
      | then-paths-from+in_ok-insts+in_ok-add_calls w ↦
          let Q : List Inst → Type 0 = λ insts. Adds from (flat_map (called m) insts) graph w.add_calls.new.graph in
          let adds = subst Q (ap insts_seen w.as_slice.ensures ∙ w.in_ok-insts.ensures) w.in_ok-add_calls.ensures in
          subst P (sym w.graph-is)
          (calls_next m from f there (length m.functions) graph w.add_calls.new.graph c.loop-from.invariant (mark_is m c.args.paths.now c.requires from f _ _ there w.if-paths-from.true) adds)
      | else-paths-from w ↦
          subst P (sym w.graph-is)
          (calls_passed m from f there (length m.functions) graph graph c.loop-from.invariant (mark_is m c.args.paths.now c.requires from f _ _ there w.if-paths-from.false))
    ]

pub returns : goal.returns
returns c =
    let m = c.args.m.now in
    let size = ap length (c.as_slice-functions.ensures ∙ ap (λ (k : Module). k.functions) c.module.ensures) in
    all_calls m (length m.functions) c.loop-from.from c.loop-from.graph (omega (arith, c.loop-from-test.false, size)) c.loop-from.invariant
