use Rattle.std.proofs.Common.{◌≡◌, ◌↔◌, ◌+◌, List, Bool, true, Some, length, refl, subst, sym, slice_get, arith}
use Rattle.call_graph.specs.Graphs.{AreMarksOf}
use Rattle.call_graph.proofs.ListLaws.{read_at}
use Rattle.call_graph.proofs.ListLaws.{read_at}
use Rattle.call_paths.specs.Rows.{ShareMark}
use Rattle.call_paths.specs.Runs.{ReachesRegion}
use Rattle.call_paths.proofs.RegionLaws.{reaching_mark, reaching_within}
use Rattle.call_paths.proofs.RowLaws.{Below, marks_next, marks_none, row_whole}
use Rattle.call_paths.proofs.regions.reaching.Goals as goal

pub loop-row-init : goal.loop-row-init
loop-row-init c =
    let P : List Bool → Type 0 = λ marks. AreMarksOf (Below (ReachesRegion c.args.m.now) 0) 0 marks in
    subst P (sym c.new-marks.ensures) (marks_none (ReachesRegion c.args.m.now))

pub loop-row-preserved : goal.loop-row-preserved
loop-row-preserved c =
    let m = c.args.m.now in
    let reaches = c.args.reaches.now in
    let at = c.loop-row.row-index in
    let row = c.row-item.result in
    let forking = c.in_ok-forking.forking in
    let mark = c.share_mark.result in
    let there : slice_get reaches at ≡ Some row = read_at reaches reaches at row refl c.loop-row-test.true c.row-item.is in
    let P : List Bool → Type 0 = λ marks. (mark ≡ true) ↔ ShareMark marks c.as_slice-in-loop-row.result.now in
    let Q : List Bool → Type 0 = λ marks. (mark ≡ true) ↔ ShareMark row marks in
    let shared = subst Q c.as_slice-in-loop-row.ensures (subst P c.as_slice.ensures c.share_mark.ensures) in
    let R : List Bool → Type 0 = λ marks. AreMarksOf (Below (ReachesRegion m) (at + 1)) (at + 1) marks in
    subst R (sym c.in_ok-push.ensures.ok)
    (marks_next (ReachesRegion m) at c.loop-row.marks mark c.loop-row.invariant (reaching_mark m (length m.functions) at reaches row forking mark c.requires there c.in_ok-forking.ensures shared))

pub returns : goal.returns
returns c =
    let m = c.args.m.now in
    let size = c.requires.size in
    row_whole (ReachesRegion m) (length m.functions) c.loop-row.row-index c.loop-row.marks (reaching_within m) (omega (arith, c.loop-row-test.false, size)) c.loop-row.invariant
