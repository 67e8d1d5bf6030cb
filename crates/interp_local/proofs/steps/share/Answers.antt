use Rattle.std.proofs.Common.{sym, ap, ◌∙◌, subst}
use Rattle.thread_state.specs.Seen.{thread_seen}
use Rattle.interp_local.specs.Steps.{part_seen, IsOwn}
use Rattle.interp_local.proofs.Shares.{share_is}
use Rattle.interp_local.proofs.steps.share.Goals as goal

pub returns-in-Stack : goal.returns-in-Stack
returns-in-Stack c = λ m f rest thread frames.
    let spot = c.in-Stack.spot in
    subst (λ nx. IsOwn m c.args.s.now c.store_own.new.s nx c.store_own.result)
    (share_is (thread_seen m c.args.s.now) f rest c.args.at (spot.thread, spot.number) spot.offset (sym c.part_of.ensures ∙ ap (part_seen c.args.at) c.in-Stack.is))
    (c.store_own.ensures m f rest thread frames)
