use Rattle.std.proofs.Common.{ℕ, ◌+◌, List, Bool, length, subst, sym, arith}
use Rattle.call_graph.specs.Graphs.{AreMarksOf}
use Rattle.call_paths.proofs.RowLaws.{Below, marks_next, marks_none, row_whole}
use Rattle.value_facts.specs.Effects.{IsGuarded}
use Rattle.effect_facts.proofs.EffectLaws.{guarded_within}
use Rattle.effect_facts.proofs.rows.guarded_row.Goals as goal

pub loop-at-init : goal.loop-at-init
loop-at-init c =
    let Holds : ℕ → Type 0 = λ k. IsGuarded c.args.m.now k in
    let P : List Bool → Type 0 = λ marks. AreMarksOf (Below Holds 0) 0 marks in
    subst P (sym c.new-marks.ensures) (marks_none Holds)

pub loop-at-preserved : goal.loop-at-preserved
loop-at-preserved c =
    let m = c.args.m.now in
    let at = c.loop-at.at in
    let Holds : ℕ → Type 0 = λ k. IsGuarded m k in
    let P : List Bool → Type 0 = λ marks. AreMarksOf (Below Holds (at + 1)) (at + 1) marks in
    subst P (sym c.in_ok-push.ensures.ok) (marks_next Holds at c.loop-at.marks c.guarded_mark.result c.loop-at.invariant c.guarded_mark.ensures)

pub returns : goal.returns
returns c =
    let m = c.args.m.now in
    row_whole (λ k. IsGuarded m k) (length m.functions) c.loop-at.at c.loop-at.marks (guarded_within m) (omega (arith, c.loop-at-test.false, c.loop-at.auto.at-end, c.len-at-end.ensures)) c.loop-at.invariant
