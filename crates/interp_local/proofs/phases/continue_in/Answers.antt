use Rattle.std.proofs.Common.{◌≡◌, Some, Ok, refl, sym, ap, ◌∙◌, subst}
use Rattle.mem_model.specs.declared.phase.Phase.TheVariants.{Loops}
use Rattle.mem_model.specs.Next.{next_in}
use Rattle.thread_state.specs.Seen.{thread_seen}
use Rattle.interp_local.specs.declared.steps.Own.TheVariants.{Went}
use Rattle.interp_local.specs.Runs.{Tells}
use Rattle.interp_local.proofs.Nexts.{standing}
use Rattle.interp_local.proofs.Midst.{turns_at, loop_alone}
use Rattle.interp_local.proofs.phases.continue_in.Goals as goal

pub unreachable-requires : goal.unreachable-requires
unreachable-requires c =
    let m = c.args.m.now in
    let t = thread_seen m c.args.s.now in
    let i = c.args.inst.now in
    let st = standing m c.args.s.now i c.requires.stands in
    loop_alone m t st.f st.rest i c.args.phase c.requires.midst c.in_default.not-Loops
    (subst (Tells (next_in m t st.f st.rest (Some i) c.args.phase)) (c.in-Ok-Went.is ∙ ap Ok c.in-Ok-Went.field-0-is) (c.look_in.ensures m t st.f st.rest i))

pub turn-requires-clause-own : goal.turn-requires-clause-own
turn-requires-clause-own c =
    let m = c.args.m.now in
    let t = thread_seen m c.args.s.now in
    let i = c.args.inst.now in
    let st = standing m c.args.s.now i c.requires.stands in
    let went = subst (Tells (next_in m t st.f st.rest (Some i) c.args.phase)) (c.in-Ok-Went.is ∙ ap Ok c.in-Ok-Went.field-0-is) (c.look_in.ensures m t st.f st.rest i) in
    turns_at m t st.f st.rest i.result c.in-Loops.point (sym c.wrapper_called.ensures ∙ c.in-None.is) (subst (λ p. Tells (next_in m t st.f st.rest (Some i) p) (Ok Went)) c.in-Loops.is went)
