use Rattle.std.proofs.Common.{sym, ap, ◌∙◌, subst}
use Rattle.thread_state.specs.Seen.{thread_seen}
use Rattle.interp_local.specs.Steps.{part_seen}
use Rattle.interp_local.specs.Runs.{Tells}
use Rattle.interp_local.proofs.Shares.{area, share_is}
use Rattle.interp_local.proofs.run.look_share.Goals as goal

pub returns-in-Stack : goal.returns-in-Stack
returns-in-Stack c = λ m f rest thread frames.
    let spot = c.in-Stack.spot in
    subst (λ nx. Tells nx c.look_store_own.result)
    (share_is (thread_seen m c.args.s.now) f rest c.args.at (spot.thread, spot.number) spot.offset (sym c.part_of.ensures ∙ ap (part_seen c.args.at) c.in-Stack.is))
    (c.look_store_own.ensures m area f rest thread frames)
