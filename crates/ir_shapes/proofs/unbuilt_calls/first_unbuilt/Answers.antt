use Rattle.std.proofs.Common.{◌≡◌, ◌<◌, Some, None, find, sym, ap, ◌∙◌, length, get_or, subst}
use Rattle.std.specs.Option.{option_copied}
use Rattle.ir_core.specs.declared.module.Function.{Function}
use Rattle.shapes.specs.Facts.{insts_of}
use Rattle.shapes.specs.Refusals.{is_unbuilt}
use Rattle.ir_shapes.proofs.UnbuiltLaws.{in_part, not_in_part}
use Rattle.ir_shapes.proofs.unbuilt_calls.first_unbuilt.Goals as goal

pub returns-in-Some : goal.returns-in-Some
returns-in-Some c =
    let n = c.loop-f.f-index in
    let f = c.f-item.result in
    let here = ap (λ (g : Function). find is_unbuilt (insts_of g)) (c.f-item.is ∙ ap (λ fs. get_or fs n f) c.as_slice-f-items.ensures) in
    in_part is_unbuilt insts_of c.args.m.now.functions n f (subst (λ fs. n < length fs) c.as_slice-f-items.ensures c.loop-f-test.true) _ c.in-Some.inst.now c.loop-f.invariant
    (c.in-Some.ensures ∙ here)

pub loop-f-preserved : goal.loop-f-preserved
loop-f-preserved c =
    let n = c.loop-f.f-index in
    let f = c.f-item.result in
    let here = ap (λ (g : Function). find is_unbuilt (insts_of g)) (c.f-item.is ∙ ap (λ fs. get_or fs n f) c.as_slice-f-items.ensures) in
    not_in_part is_unbuilt insts_of c.args.m.now.functions n f (subst (λ fs. n < length fs) c.as_slice-f-items.ensures c.loop-f-test.true) _ c.loop-f.invariant
    (c.in_default.ensures ∙ here)
