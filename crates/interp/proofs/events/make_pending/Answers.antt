use Rattle.std.proofs.Common.{◌≡◌, Some, sym, ◌∙◌, subst, rules}
use Rattle.thread_state.specs.Seen.{thread_seen}
use Rattle.interp_local.specs.Phases.{IsInMidst}
use Rattle.interp_local.proofs.Begins.{midst, nowhere_phase}
use Rattle.interp_local.proofs.Nexts.{standing, next_standing}
use Rattle.interp.proofs.events.make_pending.Goals as goal

pub unreachable-requires : goal.unreachable-requires
unreachable-requires c = c.in_default.not-Begins (c.phase.ensures ∙ nowhere_phase c.args.m.now c.args.s.now c.requires.state (search rules))

pub returns-in-Some : goal.returns-in-Some
returns-in-Some c = λ e next.
    let m = c.args.m.now in
    let s = c.args.s.now in
    let i = c.in-Some._inst.now in
    let stands = sym c.in-Some.ensures.value in
    let st = standing m s i stands in
    let mid = midst m s c.requires.served c.requires.state (λ b. c.in_default.not-Begins (c.phase.ensures ∙ b)) in
    c.change_in.ensures m st.f st.rest i e c.requires.state mid.0 st.frames (sym (next_standing m s st i c.phase.result stands (sym c.phase.ensures)) ∙ next) (subst IsInMidst (sym c.phase.ensures) mid.1)
