use Rattle.std.proofs.Common.{◌++◌, ◌+◌, ◌-◌, ap, sym, ◌∙◌, Err}
use Rattle.ir_core.specs.declared.answers.Or.TheVariants.{Refused}
use Rattle.interp.specs.Teams.{team_seen}
use Rattle.replay.specs.Turns.{turns_from, replayed}
use Rattle.replay.specs.Replays.{TakesTurn}
use Rattle.replay.proofs.TurnLaws.{turn_more, goes, stops, keeps}
use Rattle.replay.proofs.run.run_pair.Goals as goal

pub returns-in-Err-Refused : goal.returns-in-Err-Refused
returns-in-Err-Refused c =
    let m = c.args.m.now in
    let p = c.args.pair in
    let i = c.loop-step.step in
    let more = turn_more p.thread c.args.line i p.count c.loop-step-test.true in
    let told : TakesTurn m c.loop-step.left p.thread c.loop-step.team c.take_turn.new.team (Err (Refused c.in-Err-Refused.fault)) = rw c.in-Err-Refused.field-0-is at c.in-Err-Refused.ensures in
    λ rest.
    c.loop-step.invariant.same rest
    ∙ ap (λ ts. replayed m c.loop-step.left (ts ++ rest) (team_seen m c.loop-step.team)) more
    ∙ stops m c.loop-step.left (record { thread = p.thread; line = c.args.line; step = i + 1 }) (turns_from p.thread c.args.line (i + 1 + 1) (p.count - (i + 1)) ++ rest) c.loop-step.team c.take_turn.new.team c.in-Err-Refused.fault told
    ∙ ap (λ f. Err (record { fault = f; line = c.args.line; step = i + 1 })) (sym c.in-Err-Refused.fault-is)

pub loop-step-preserved : goal.loop-step-preserved
loop-step-preserved c =
    let m = c.args.m.now in
    let p = c.args.pair in
    let i = c.loop-step.step in
    let more = turn_more p.thread c.args.line i p.count c.loop-step-test.true in
    record {
      threads = keeps m c.loop-step.left p.thread c.in-Ok.fewer c.loop-step.team c.take_turn.new.team c.in-Ok.ensures;
      same = λ rest.
          c.loop-step.invariant.same rest
          ∙ ap (λ ts. replayed m c.loop-step.left (ts ++ rest) (team_seen m c.loop-step.team)) more
          ∙ goes m c.loop-step.left (record { thread = p.thread; line = c.args.line; step = i + 1 }) (turns_from p.thread c.args.line (i + 1 + 1) (p.count - (i + 1)) ++ rest) c.loop-step.team c.take_turn.new.team c.in-Ok.fewer c.in-Ok.ensures;
    }
