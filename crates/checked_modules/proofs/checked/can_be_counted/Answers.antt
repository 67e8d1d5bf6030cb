use Rattle.std.proofs.Common.{◌≡◌, List, Some, slice_get, ap, ◌∙◌, arith}
use Rattle.ir_core.specs.declared.module.Function.{Function}
use Rattle.checked_modules.proofs.Counts.{counted, within}
use Rattle.checked_modules.proofs.checked.can_be_counted.Goals as goal

pub returns : goal.returns
returns c =
    let fs = c.as_slice-f-items.result.now in
    let same = c.as_slice-f-items.ensures in
    counted c.args.m.now c.requires
    (λ at f is.
    let there : slice_get fs at ≡ Some f = ap (λ (gs : List Function). slice_get gs at) same ∙ is in
    let inside = within fs at f there in
    let all = c.loop-f-test.false in
    c.loop-f.invariant at f (omega arith) there)
