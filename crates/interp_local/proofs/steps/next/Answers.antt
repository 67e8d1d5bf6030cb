use Rattle.std.proofs.Common.{◌≡◌, Some, sym, ◌∙◌, subst}
use Rattle.mem_model.specs.Next.{Next, next_in}
use Rattle.thread_state.specs.Seen.{thread_seen}
use Rattle.interp_local.specs.Phases.{IsInMidst}
use Rattle.interp_local.specs.Steps.{phase_of, TakesIn, StandsAtTaking}
use Rattle.interp_local.proofs.Begins.{midst}
use Rattle.interp_local.proofs.Nexts.{standing, next_standing, takes_standing, tried_as}
use Rattle.interp_local.proofs.steps.next.Goals as goal

pub continue_in-requires : goal.continue_in-requires
continue_in-requires c =
    let m = c.args.m.now in
    let s = c.args.s.now in
    let is : phase_of s ≡ c.phase.result = sym c.phase.ensures in
    let mid = midst m s c.requires.served c.requires.thread (λ e. c.in_default-phase.not-Begins (c.phase.ensures ∙ e)) in
    record {
      thread = c.requires.thread;
      stands = sym c.in-Some.ensures.value;
      long = mid.0;
      within = c.in-Some.ensures.within;
      phase = is;
      midst = subst IsInMidst is mid.1;
    }

pub returns-in_default-phase : goal.returns-in_default-phase
returns-in_default-phase c =
    let m = c.args.m.now in
    let s = c.args.s.now in
    let i = c.in-Some.inst.now in
    let p = c.phase.result in
    let stands = sym c.in-Some.ensures.value in
    let is : phase_of s ≡ p = sym c.phase.ensures in
    let st = standing m s i stands in
    tried_as (TakesIn m (Some i) p) (StandsAtTaking m (thread_seen m s)) m s c.continue_in.new.s (next_in m (thread_seen m s) st.f st.rest (Some i) p) (Next m (thread_seen m s)) c.continue_in.result
    (takes_standing m s st i p stands is) (sym (next_standing m s st i p stands is)) (c.continue_in.ensures st.f st.rest st.frames)
