use Rattle.std.proofs.Common.{◌≡◌, Some, refl, sym, ap, ◌∙◌, subst, length, rules, ◌+◌}
use Rattle.std.specs.Prelude.{slice_get}
use Rattle.std.proofs.lemmas.Option.{slice_get_read}
use Rattle.ir_core.specs.Places.{place_in}
use Rattle.thread_state.specs.Moves.{names_of, IsPlaceOf}
use Rattle.interp_local.proofs.Branches.{Assigns, drop_get, word_there, assigns_none, assigns_some}
use Rattle.interp_local.proofs.phis.assign_phis.Goals as goal
use Rattle.interp_local.proofs.phis.assign_phis.Goals.{in-Some+in-Some-kept, in_default-result}

pub unreachable-requires : goal.unreachable-requires
unreachable-requires c =
    let insts = c.args.insts.now in
    let n = c.loop-inst.inst-index in
    let i = c.inst-item.result in
    let there : slice_get insts n ≡ Some i = slice_get_read insts (length insts) n i refl (search rules) (search rules) in
    word_there c.args.m.now insts c.args.s.now c.loop-inst.s n c.loop-inst.count c.loop-inst.kept c.loop-inst.invariant i c.in-Phi.ty c.in-Phi.edges (drop_get insts n i there) c.in-Phi.is c.in-Some.name c.loop-inst.kept c.in-Some.is refl
    (sym c.kept.ensures ∙ c.in_default-kept.is)

pub loop-inst-preserved : goal.loop-inst-preserved
loop-inst-preserved c =
    let m = c.args.m.now in
    let insts = c.args.insts.now in
    let s0 = c.args.s.now in
    let s = c.loop-inst.s in
    let n = c.loop-inst.inst-index in
    let count = c.loop-inst.count in
    let kept = c.loop-inst.kept in
    let i = c.inst-item.result in
    let there : slice_get insts n ≡ Some i = slice_get_read insts (length insts) n i refl (search rules) (search rules) in
    elim c.match-inst-2.branch [
      | in-Some+in-Some-kept w ↦
          let a = c.loop-inst.invariant in
          let place = c.requires.places n i w.in-Some.name there w.in-Some.is in
          let found = w.register-register.ensures ∙ ap (λ names. place_in names w.in-Some.name) a.names in
          let is : IsPlaceOf (names_of m s) (Some w.in-Some.name) w.register-register.result = (place.0, found ∙ place.1, sym w.register-register.ensures) in
          subst (λ z. Assigns m insts s0 z (n + 1) (count + 1) c.match-inst-2.kept) (sym w.s-is)
          (subst (λ k. Assigns m insts s0 w.assign.new.self (n + 1) (count + 1) k) (sym w.kept-is)
          (assigns_some m insts s0 s n count kept a i c.in-Phi.ty c.in-Phi.edges (drop_get insts n i there) c.in-Phi.is w.in-Some-kept.word w.in-Some.name w.assign.new.self w.in-Some.is (sym w.kept.ensures ∙ w.in-Some-kept.is) (w.assign.ensures.moves m (Some w.in-Some.name) a.thread is) w.assign.ensures.room (w.assign.ensures.names m)))
      | in_default-result w ↦
          subst (λ z. Assigns m insts s0 z (n + 1) (count + 1) c.match-inst-2.kept) (sym w.s-is)
          (subst (λ k. Assigns m insts s0 s (n + 1) (count + 1) k) (sym w.kept-is)
          (assigns_none m insts s0 s n count kept c.loop-inst.invariant i c.in-Phi.ty c.in-Phi.edges (drop_get insts n i there) c.in-Phi.is w.in_default-result.is))
    ]
