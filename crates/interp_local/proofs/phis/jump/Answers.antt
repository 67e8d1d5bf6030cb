use Rattle.std.proofs.Common.{◌≡◌, ◌≤◌, length, Some, sym, ap, ◌∙◌, subst, rules, slice_get}
use Rattle.ir_core.specs.Places.{block_in, leading_phis}
use Rattle.thread_state.specs.Moves.{names_of, room_of, Moves}
use Rattle.interp_local.specs.Actions.{function_of}
use Rattle.interp_local.specs.Phis.{results, with_words, HasGathered, HavePlaces}
use Rattle.interp_local.proofs.Jumps.{room_there, room_then, places_then, jump_traps, jump_goes}
use Rattle.interp_local.proofs.phis.jump.Goals as goal

pub gather-requires-clause-room : goal.gather-requires-clause-room
gather-requires-clause-room c =
    let m = c.args.m.now in
    let s = c.args.s.now in
    let here = c.in-Some.here.now in
    let target = c.in-Some-block_at.target.now in
    let b = c.args.block in
    let target_is : block_in (slice_get m.functions (function_of s)) b ≡ Some target = ap (λ k. block_in (slice_get m.functions k) b) (sym c.function.ensures) ∙ sym c.in-Some-block_at.ensures in
    subst (λ xs. ◌≤◌ (length (results (leading_phis xs))) (length (room_of s))) (sym c.as_slice-insts.ensures) (room_there m s here target b (sym c.in-Some.ensures) target_is c.requires.thread)

pub returns-in_err-gather : goal.returns-in_err-gather
returns-in_err-gather c = λ f rest frames.
    let m = c.args.m.now in
    let s = c.args.s.now in
    let here = c.in-Some.here.now in
    let target = c.in-Some-block_at.target.now in
    let b = c.args.block in
    let target_is : block_in (slice_get m.functions (function_of s)) b ≡ Some target = ap (λ k. block_in (slice_get m.functions k) b) (sym c.function.ensures) ∙ sym c.in-Some-block_at.ensures in
    jump_traps m s here target b (sym c.in-Some.ensures) target_is f rest frames c.gather.new.s c.in_err-gather.field-0.0 _
    (subst (λ r. HasGathered m here.name (leading_phis target.insts) s c.gather.new.s r) c.in_err-gather.was (subst (λ xs. HasGathered m here.name (leading_phis xs) s c.gather.new.s c.gather.result) c.as_slice-insts.ensures c.gather.ensures))
    (search rules)

pub assign_phis-count-requires-clause-places : goal.assign_phis-count-requires-clause-places
assign_phis-count-requires-clause-places c =
    let m = c.args.m.now in
    let s = c.args.s.now in
    let here = c.in-Some.here.now in
    let target = c.in-Some-block_at.target.now in
    let b = c.args.block in
    let target_is : block_in (slice_get m.functions (function_of s)) b ≡ Some target = ap (λ k. block_in (slice_get m.functions k) b) (sym c.function.ensures) ∙ sym c.in-Some-block_at.ensures in
    subst (λ xs. HavePlaces (names_of m c.gather.new.s) xs) (sym c.as_slice-insts.ensures) (places_then m s here target b (sym c.in-Some.ensures) target_is c.gather.new.s c.gather.ensures.0)

pub assign_phis-count-requires-clause-room : goal.assign_phis-count-requires-clause-room
assign_phis-count-requires-clause-room c =
    let m = c.args.m.now in
    let s = c.args.s.now in
    let here = c.in-Some.here.now in
    let target = c.in-Some-block_at.target.now in
    let b = c.args.block in
    let target_is : block_in (slice_get m.functions (function_of s)) b ≡ Some target = ap (λ k. block_in (slice_get m.functions k) b) (sym c.function.ensures) ∙ sym c.in-Some-block_at.ensures in
    subst (λ xs. ◌≤◌ (length (results (leading_phis xs))) (length (room_of c.gather.new.s))) (sym c.as_slice-insts.ensures) (room_then m s here target b (sym c.in-Some.ensures) target_is c.gather.new.s c.gather.ensures.0)

pub returns : goal.returns
returns c = λ f rest frames.
    let m = c.args.m.now in
    let s = c.args.s.now in
    let here = c.in-Some.here.now in
    let target = c.in-Some-block_at.target.now in
    let b = c.args.block in
    let target_is : block_in (slice_get m.functions (function_of s)) b ≡ Some target = ap (λ k. block_in (slice_get m.functions k) b) (sym c.function.ensures) ∙ sym c.in-Some-block_at.ensures in
    jump_goes m s here target b (sym c.in-Some.ensures) target_is f rest frames c.gather.new.s c.assign_phis-count.new.s c.jump-2.new.self c.in_ok-gather.field-0 c.assign_phis-count.result
    (subst (λ r. HasGathered m here.name (leading_phis target.insts) s c.gather.new.s r) c.in_ok-gather.was (subst (λ xs. HasGathered m here.name (leading_phis xs) s c.gather.new.s c.gather.result) c.as_slice-insts.ensures c.gather.ensures))
    (c.assign_phis-count.ensures.count ∙ ap (λ xs. length (leading_phis xs)) c.as_slice-insts.ensures)
    (subst (λ xs. Moves (with_words (leading_phis xs) (room_of c.gather.new.s)) m c.gather.new.s c.assign_phis-count.new.s) c.as_slice-insts.ensures c.assign_phis-count.ensures.moves)
    (c.jump-2.ensures m)
