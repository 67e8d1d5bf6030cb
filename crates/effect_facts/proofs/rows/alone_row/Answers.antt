use Rattle.std.proofs.Common.{ℕ, ◌+◌, List, Bool, length, subst, sym, arith}
use Rattle.call_graph.specs.Graphs.{AreMarksOf}
use Rattle.call_paths.proofs.RowLaws.{Below, marks_next, marks_none, row_whole}
use Rattle.effect_facts.specs.Marks.{HasEffectAlone}
use Rattle.effect_facts.proofs.EffectLaws.{alone_within}
use Rattle.effect_facts.proofs.rows.alone_row.Goals as goal

pub loop-at-init : goal.loop-at-init
loop-at-init c =
    let Holds : ℕ → Type 0 = λ k. HasEffectAlone c.args.m.now k in
    let P : List Bool → Type 0 = λ marks. AreMarksOf (Below Holds 0) 0 marks in
    subst P (sym c.new-marks.ensures) (marks_none Holds)

pub loop-at-preserved : goal.loop-at-preserved
loop-at-preserved c =
    let m = c.args.m.now in
    let at = c.loop-at.at in
    let Holds : ℕ → Type 0 = λ k. HasEffectAlone m k in
    let P : List Bool → Type 0 = λ marks. AreMarksOf (Below Holds (at + 1)) (at + 1) marks in
    subst P (sym c.in_ok-push.ensures.ok) (marks_next Holds at c.loop-at.marks c.alone_mark.result c.loop-at.invariant c.alone_mark.ensures)

pub returns : goal.returns
returns c =
    let m = c.args.m.now in
    row_whole (λ k. HasEffectAlone m k) (length m.functions) c.loop-at.at c.loop-at.marks (alone_within m) (omega (arith, c.loop-at-test.false, c.loop-at.auto.at-end, c.len-at-end.ensures)) c.loop-at.invariant
