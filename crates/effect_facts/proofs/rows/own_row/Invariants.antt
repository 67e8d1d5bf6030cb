use Rattle.call_graph.specs.Graphs.{AreMarksOf}
use Rattle.call_paths.proofs.RowLaws.{Below}
use Rattle.effect_facts.specs.Marks.{HasOwnEffect}
use Rattle.effect_facts.proofs.rows.own_row.Given as goal

abbrev pub invariant-loop-at : goal.invariant-loop-at
invariant-loop-at l = AreMarksOf (Below (λ k. HasOwnEffect l.m k) l.at) l.at l.marks
