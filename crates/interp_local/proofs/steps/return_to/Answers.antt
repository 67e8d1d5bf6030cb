use Rattle.std.proofs.Common.{◌≡◌, sym, ◌∙◌, subst, rules}
use Rattle.mem_model.specs.declared.phase.Phase.TheVariants.{Begins, InRegion, Loops}
use Rattle.mem_model.specs.declared.phase.LoopPoint.{LoopPoint}
use Rattle.thread_state.specs.declared.state.ThreadState.{ThreadState as ThreadData}
use Rattle.thread_state.specs.Seen.{Occurs}
use Rattle.interp_local.specs.Steps.{phase_of}
use Rattle.interp_local.proofs.Begins.{long}
use Rattle.interp_local.proofs.Returned.{stands, returned, worked, region_left, skipped, only_call}
use Rattle.interp_local.proofs.steps.return_to.Goals as goal

behind_loop : (s : ThreadData) (point : LoopPoint) → phase_of s ≡ Loops point → phase_of s ≡ Begins → ⊥
behind_loop s point is e = let f : ⊥ = cc in f

behind_region : (s : ThreadData) → phase_of s ≡ InRegion → phase_of s ≡ Begins → ⊥
behind_region s is e = let f : ⊥ = cc in f

pub returns-then-len-lt2 : goal.returns-then-len-lt2
returns-then-len-lt2 c = λ f rest frames. only_call c.args.m.now c.args.s.now c.args.word f rest (search rules) frames

pub go_behind-requires : goal.go_behind-requires
go_behind-requires c = stands c.args.m.now c.args.s.now c.leave.new.self c.leave.ensures.frames c.requires.thread (search rules)

pub skip-requires : goal.skip-requires
skip-requires c = stands c.args.m.now c.args.s.now c.leave.new.self c.leave.ensures.frames c.requires.thread (search rules)

pub returns-in-Begins : goal.returns-in-Begins
returns-in-Begins c = λ f rest frames.
    let m = c.args.m.now in
    let old = c.args.s.now in
    let mid = c.leave.new.self in
    returned m old mid c.leave.ensures.frames c.args.word c.go_behind.new.s f rest (search rules) frames (c.leave.ensures.seen m f rest c.requires.thread frames) (sym c.phase.ensures ∙ c.in-Begins.is) c.go_behind.ensures

pub returns-in-Loops : goal.returns-in-Loops
returns-in-Loops c = λ f rest frames.
    let m = c.args.m.now in
    let old = c.args.s.now in
    let mid = c.leave.new.self in
    let seen = c.leave.ensures.seen m f rest c.requires.thread frames in
    let is = sym c.phase.ensures ∙ c.in-Loops.is in
    let there = long m mid seen.0 (behind_loop mid c.in-Loops.field-0 is) in
    worked m old mid c.leave.ensures.frames c.args.word c.stay.new.self f rest (search rules) frames seen c.in-Loops.field-0 is (c.stay.ensures m seen.0 there.0 tt)

pub returns-in-InRegion : goal.returns-in-InRegion
returns-in-InRegion c = λ f rest frames.
    let m = c.args.m.now in
    let old = c.args.s.now in
    let mid = c.leave.new.self in
    let seen = c.leave.ensures.seen m f rest c.requires.thread frames in
    let is = sym c.phase.ensures ∙ c.in-InRegion.is in
    let there = long m mid seen.0 (behind_region mid is) in
    region_left m old mid c.leave.ensures.frames c.args.word c.end_region.new.s f rest (search rules) frames seen c.stay-in-InRegion.new.self is (c.stay-in-InRegion.ensures m seen.0 there.0 (subst (Occurs m) is there.1)) (c.end_region.ensures m)

pub returns-in_default : goal.returns-in_default
returns-in_default c = λ f rest frames.
    let m = c.args.m.now in
    let old = c.args.s.now in
    let mid = c.leave.new.self in
    let d = c.in_default in
    skipped m old mid c.leave.ensures.frames c.args.word c.skip.new.s f rest (search rules) frames (c.leave.ensures.seen m f rest c.requires.thread frames) c.phase.result (sym c.phase.ensures) d.not-Begins d.not-Loops d.not-InRegion c.skip.ensures
