use Rattle.std.proofs.Common.{◌≡◌, ◌↔◌, true, sym, subst}
use Rattle.ir_core.specs.declared.module.Module.{Module}
use Rattle.shapes.specs.Facts.{insts_of}
use Rattle.effect_facts.specs.Marks.{OneHasEffect}
use Rattle.effect_facts.proofs.EffectLaws.{own_mark_is}
use Rattle.effect_facts.proofs.marks.own_mark.Goals as goal

pub returns-in-Some : goal.returns-in-Some
returns-in-Some c =
    let f = c.in-Some.f.now in
    let mark = c.has_own_effect.result in
    let P : Module → Type 0 = λ m. (mark ≡ true) ↔ OneHasEffect m c.args.at (insts_of f) in
    own_mark_is c.args.m.now c.args.at f mark (sym c.in-Some.ensures.value) (subst P c.requires c.has_own_effect.ensures)
