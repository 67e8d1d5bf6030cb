use Rattle.std.proofs.Common.{◌+◌, ap, ◌∙◌, drop}
use Rattle.std.proofs.lemmas.Result.{err_from_is_err_and}
use Rattle.interp.specs.Teams.{team_seen}
use Rattle.replay.specs.Turns.{turns, replayed}
use Rattle.replay.proofs.TurnLaws.{pair_more, refused_by}
use Rattle.replay.proofs.run.replay.Goals as goal

pub returns-in_err-left : goal.returns-in_err-left
returns-in_err-left c =
    let m = c.args.m.now in
    let i = c.loop-at.at in
    let rest = turns (i + 1 + 1) (drop (i + 1) c.args.pairs.now) in
    let p = err_from_is_err_and c.from_residual.result c.from_residual.ensures.1 in
    rw (p.1, p.2) (refused_by (Unit {0}) m c.in_err-left.field-0.0 (replayed m c.args.steps (turns 1 c.args.pairs.now) (team_seen m c.args.team.now)) _ c.run_pair.new.team rest (c.in_err-left.ensures rest)
    (c.loop-at.invariant.same ∙ ap (λ ts. replayed m c.loop-at.left ts (team_seen m c.loop-at.team)) (pair_more (i + 1) i c.args.pairs.now _ c.loop-at-test.true)))

pub loop-at-preserved : goal.loop-at-preserved
loop-at-preserved c =
    let m = c.args.m.now in
    let i = c.loop-at.at in
    let more = pair_more (i + 1) i c.args.pairs.now _ c.loop-at-test.true in
    let went = c.in_ok-left.ensures (turns (i + 1 + 1) (drop (i + 1) c.args.pairs.now)) in
    record {
      threads = went.0;
      same = c.loop-at.invariant.same ∙ ap (λ ts. replayed m c.loop-at.left ts (team_seen m c.loop-at.team)) more ∙ went.1;
    }
