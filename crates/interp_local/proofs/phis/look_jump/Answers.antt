use Rattle.std.proofs.Common.{◌≡◌, Some, sym, ap, ◌∙◌, rules, slice_get}
use Rattle.ir_core.specs.Places.{block_in, leading_phis}
use Rattle.mem_model.specs.Answers.{only_trap}
use Rattle.interp_local.specs.Operands.{registers}
use Rattle.interp_local.specs.Actions.{function_of}
use Rattle.interp_local.specs.Phis.{phi_words}
use Rattle.interp_local.proofs.Jumps.{look_traps, look_goes}
use Rattle.interp_local.proofs.phis.look_jump.Goals as goal

pub returns-in_err-look_phis : goal.returns-in_err-look_phis
returns-in_err-look_phis c = λ f rest frames.
    let m = c.args.m.now in
    let s = c.args.s.now in
    let here = c.in-Some.here.now in
    let target = c.in-Some-block_at.target.now in
    let b = c.args.block in
    let target_is : block_in (slice_get m.functions (function_of s)) b ≡ Some target = ap (λ k. block_in (slice_get m.functions k) b) (sym c.function.ensures) ∙ sym c.in-Some-block_at.ensures in
    look_traps m s here target b (sym c.in-Some.ensures) target_is f rest frames c.in_err-look_phis.field-0.0 _
    (sym c.in_err-look_phis.was ∙ c.look_phis.ensures ∙ ap (λ xs. only_trap (phi_words m (registers m s) here.name (leading_phis xs))) c.as_slice.ensures)
    (search rules)

pub returns-in_ok-look_phis : goal.returns-in_ok-look_phis
returns-in_ok-look_phis c = λ f rest frames.
    let m = c.args.m.now in
    let s = c.args.s.now in
    let here = c.in-Some.here.now in
    let target = c.in-Some-block_at.target.now in
    let b = c.args.block in
    let target_is : block_in (slice_get m.functions (function_of s)) b ≡ Some target = ap (λ k. block_in (slice_get m.functions k) b) (sym c.function.ensures) ∙ sym c.in-Some-block_at.ensures in
    look_goes m s here target b (sym c.in-Some.ensures) target_is f rest frames
    (sym c.in_ok-look_phis.was ∙ c.look_phis.ensures ∙ ap (λ xs. only_trap (phi_words m (registers m s) here.name (leading_phis xs))) c.as_slice.ensures)
