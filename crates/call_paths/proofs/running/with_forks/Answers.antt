use Rattle.std.proofs.Common.{◌≡◌, List, Some, length, ap, subst, ◌∙◌, slice_get, arith}
use Rattle.std.specs.List.{flat_map}
use Rattle.ir_core.specs.declared.instructions.Inst.{Inst}
use Rattle.ir_core.specs.declared.module.Module.{Module}
use Rattle.shapes.specs.Insts.{insts_seen}
use Rattle.call_graph.specs.Graphs.{Adds}
use Rattle.call_graph.specs.Targets.{forked}
use Rattle.call_graph.proofs.ListLaws.{read_at}
use Rattle.call_paths.proofs.RunLaws.{all_forks, forks_next, no_forks}
use Rattle.call_paths.proofs.running.with_forks.Goals as goal

pub loop-from-init : goal.loop-from-init
loop-from-init c = no_forks c.args.m.now (length c.args.m.now.functions) c.args.calls c.requires

pub loop-from-preserved : goal.loop-from-preserved
loop-from-preserved c =
    let m = c.args.m.now in
    let from = c.loop-from.from in
    let f = c.f-item.result in
    let all = c.as_slice-f-items.ensures ∙ ap (λ (k : Module). k.functions) c.module.ensures in
    let there : slice_get m.functions from ≡ Some f = read_at c.as_slice-f-items.result.now m.functions from f all c.loop-from-test.true c.f-item.is in
    let P : List Inst → Type 0 = λ insts. Adds from (flat_map (forked m) insts) c.loop-from.graph c.add_forks.new.graph in
    let adds = subst P (ap insts_seen c.as_slice.ensures ∙ c.in_ok-insts.ensures) c.in_ok-add_forks.ensures in
    forks_next m from f there (length m.functions) c.loop-from.graph c.add_forks.new.graph c.loop-from.invariant adds

pub returns : goal.returns
returns c =
    let m = c.args.m.now in
    let size = ap length (c.as_slice-f-items.ensures ∙ ap (λ (k : Module). k.functions) c.module.ensures) in
    all_forks m (length m.functions) c.loop-from.from c.loop-from.graph (omega (arith, c.loop-from-test.false, size)) c.loop-from.invariant
