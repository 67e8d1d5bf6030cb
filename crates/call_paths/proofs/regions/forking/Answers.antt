use Rattle.std.proofs.Common.{◌≡◌, ◌+◌, List, Bool, Some, length, ap, subst, sym, slice_get, arith}
use Rattle.call_graph.specs.Graphs.{AreMarksOf}
use Rattle.call_graph.proofs.ListLaws.{read_at}
use Rattle.call_paths.specs.Runs.{HasFork}
use Rattle.call_paths.proofs.RegionLaws.{fork_mark, fork_within}
use Rattle.call_paths.proofs.RowLaws.{Below, marks_next, marks_none, row_whole}
use Rattle.call_paths.proofs.regions.forking.Goals as goal

pub loop-f-init : goal.loop-f-init
loop-f-init c =
    let P : List Bool → Type 0 = λ marks. AreMarksOf (Below (HasFork c.args.m.now) 0) 0 marks in
    subst P (sym c.new-marks.ensures) (marks_none (HasFork c.args.m.now))

pub loop-f-preserved : goal.loop-f-preserved
loop-f-preserved c =
    let m = c.args.m.now in
    let at = c.loop-f.f-index in
    let f = c.f-item.result in
    let there : slice_get m.functions at ≡ Some f = read_at c.as_slice-f-items.result.now m.functions at f c.as_slice-f-items.ensures c.loop-f-test.true c.f-item.is in
    let P : List Bool → Type 0 = λ marks. AreMarksOf (Below (HasFork m) (at + 1)) (at + 1) marks in
    subst P (sym c.in_ok-push.ensures.ok) (marks_next (HasFork m) at c.loop-f.marks c.has_fork.result c.loop-f.invariant (fork_mark m at f c.has_fork.result there c.has_fork.ensures))

pub returns : goal.returns
returns c =
    let m = c.args.m.now in
    let size = ap length c.as_slice-f-items.ensures in
    row_whole (HasFork m) (length m.functions) c.loop-f.f-index c.loop-f.marks (fork_within m) (omega (arith, c.loop-f-test.false, size)) c.loop-f.invariant
