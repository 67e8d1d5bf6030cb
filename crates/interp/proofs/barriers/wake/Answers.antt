use Rattle.std.proofs.Common.{◌∙◌, rules}
use Rattle.team_model.specs.Team.{goes_again}
use Rattle.interp.proofs.Mapped.{mapped_all, one_more, no_more}
use Rattle.interp.proofs.barriers.wake.Goals as goal
use Rattle.interp.proofs.barriers.wake.Goals.{in-Some, in_default}

pub loop-at-preserved : goal.loop-at-preserved
loop-at-preserved c =
    let g = goes_again c.args.kind in
    elim c.match-get.branch [
      | in-Some w ↦ one_more g c.loop-at.at c.args.stands.now c.loop-at.stands c.match-get.stands w.in-Some.stand.now w.goes_again-next.result c.loop-at.invariant (search rules) w.goes_again-next.ensures (w.stands-is ∙ w.set.ensures)
      | in_default w ↦ no_more g c.loop-at.at c.args.stands.now c.loop-at.stands c.match-get.stands c.loop-at.invariant (search rules) w.stands-is
    ]

pub returns : goal.returns
returns c = c.loop-at.invariant ∙ mapped_all (goes_again c.args.kind) c.loop-at.at c.args.stands.now (search rules)
