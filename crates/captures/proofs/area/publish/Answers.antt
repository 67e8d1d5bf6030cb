use Rattle.std.proofs.Common.{sym, ◌∙◌, arith}
use Rattle.captures.proofs.Areas.{word_put, no_end}
use Rattle.captures.proofs.area.publish.Goals as goal
use Rattle.captures.proofs.area.publish.Goals.{in-Some, in_default}

pub loop-at-preserved : goal.loop-at-preserved
loop-at-preserved c =
    elim c.match-get.branch [
      | in-Some w ↦ word_put c.args.words.now c.loop-at.at w.in-Some.word c.args.memory.now c.loop-at.memory c.match-get.memory (sym c.get.ensures.value ∙ w.in-Some.is) (w.memory-is ∙ w.put.ensures) c.loop-at.invariant
      | in_default w ↦
          let low = c.loop-at-test.true in
          let all = c.len-at-end.ensures.value in
          absurd (no_end c.args.words.now c.loop-at.at (omega arith) (λ p there. w.in_default.not-Some p (c.get.ensures.value ∙ there)))
    ]
