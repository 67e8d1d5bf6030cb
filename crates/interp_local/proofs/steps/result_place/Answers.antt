use Rattle.std.proofs.Common.{sym, subst}
use Rattle.ir_core.specs.Places.{place_in}
use Rattle.thread_state.specs.Moves.{names_of, IsPlaceOf}
use Rattle.interp_local.proofs.Results.{result_is}
use Rattle.interp_local.proofs.steps.result_place.Goals as goal

pub returns-in-Some : goal.returns-in-Some
returns-in-Some c =
    let names = names_of c.args.m.now c.args.s.now in
    let place = result_is c.args.m.now c.args.s.now c.args.inst.now c.in-Some.name c.requires c.in-Some.is in
    subst (λ r. IsPlaceOf names c.args.inst.now.result r) (sym c.register.ensures) (subst (λ o. IsPlaceOf names o (place_in names c.in-Some.name)) (sym c.in-Some.is) place)
