use Rattle.std.proofs.Common.{◌^◌, ◌≤◌, ◌∙◌, ◌*ℤ◌, ap, sym, subst, rules, unsigned_abs}
use Rattle.std.specs.Int.{w128}
use Rattle.std.specs.Int.RustNames.{FitsSigned}
use Rattle.static_loops.proofs.Ways.{way_is, way_small, kept, abs_below}
use Rattle.static_loops.proofs.turns.way.Goals as goal

pub returns-clause-value : goal.returns-clause-value
returns-clause-value c =
    let x = c.args.steps in
    let y = c.from.result in
    let fx : FitsSigned w128 x = search rules in
    let fy : FitsSigned w128 y = search rules in
    let e = c.from.ensures ∙ kept c.args.increment c.requires.increment in
    way_is x y fx fy c.requires.steps (subst (λ z. unsigned_abs z ≤ 2 ^ 31) (sym e) (abs_below c.args.increment c.requires.increment)) ∙ ap (λ z. x *ℤ z) e

pub returns-clause-small : goal.returns-clause-small
returns-clause-small c =
    subst (λ z. unsigned_abs z ≤ 2 ^ 96) (sym (returns-clause-value c)) (way_small c.args.steps c.args.increment c.requires.steps (abs_below c.args.increment c.requires.increment))
