use Rattle.std.proofs.Common.{◌≡◌, Ok, Err, Some, sym, ◌∙◌, subst, rules}
use Rattle.mem_model.specs.Next.{next_in}
use Rattle.thread_state.specs.Seen.{thread_seen}
use Rattle.interp_local.specs.Phases.{IsInMidst}
use Rattle.interp_local.specs.Runs.{Tells}
use Rattle.interp_local.proofs.Begins.{midst}
use Rattle.interp_local.proofs.Looks.{told_trap}
use Rattle.interp_local.proofs.Nexts.{at_inst, standing, next_standing, served, next_decided}
use Rattle.interp_local.proofs.run.look.Goals as goal

pub decide-requires-clause-served : goal.decide-requires-clause-served
decide-requires-clause-served c = served c.args.m.now c.args.s.now c.in-Some.inst.now c.requires.served (sym c.in-Some.ensures.value)

pub returns-in_err-decide-in-Begins : goal.returns-in_err-decide-in-Begins
returns-in_err-decide-in-Begins c =
    let m = c.args.m.now in
    let s = c.args.s.now in
    let i = c.in-Some.inst.now in
    let is = sym c.in-Some.ensures.value in
    let err = c.in_err-decide-in-Begins in
    let a = at_inst m s i (sym c.phase.ensures ∙ c.in-Begins.is) is in
    told_trap _ err.field-0.0 _ (next_decided m s a i (Err err.field-0.0) is (served m s i c.requires.served is) (sym err.was ∙ c.decide.ensures.value)) (search rules)

pub returns-in_ok-decide-in-Begins : goal.returns-in_ok-decide-in-Begins
returns-in_ok-decide-in-Begins c =
    let m = c.args.m.now in
    let s = c.args.s.now in
    let i = c.in-Some.inst.now in
    let is = sym c.in-Some.ensures.value in
    let ok = c.in_ok-decide-in-Begins in
    let a = at_inst m s i (sym c.phase.ensures ∙ c.in-Begins.is) is in
    subst (λ nx. Tells nx c.look_at.result)
    (next_decided m s a i (Ok ok.field-0) is (served m s i c.requires.served is) (sym ok.was ∙ c.decide.ensures.value))
    (c.look_at.ensures a.f a.rest a.frames)

pub look_in-requires : goal.look_in-requires
look_in-requires c =
    subst IsInMidst (sym c.phase.ensures) (midst c.args.m.now c.args.s.now c.requires.served c.requires.thread (λ e. c.in_default-phase.not-Begins (c.phase.ensures ∙ e))).1

pub returns-in_default-phase : goal.returns-in_default-phase
returns-in_default-phase c =
    let m = c.args.m.now in
    let s = c.args.s.now in
    let i = c.in-Some.inst.now in
    let stands = sym c.in-Some.ensures.value in
    let st = standing m s i stands in
    subst (λ nx. Tells nx c.look_in.result) (sym (next_standing m s st i c.phase.result stands (sym c.phase.ensures))) (c.look_in.ensures m (thread_seen m s) st.f st.rest i)
