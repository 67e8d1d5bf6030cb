use Rattle.std.proofs.Common.{◌≡◌, ℕ, suc, ◌-◌, List, [], ap, sym, ◌∙◌, subst, arith}
use Rattle.std.specs.List.{fold, flat_map, list_any}
use Rattle.item_names.specs.Circles.{has, mark, leads, parts_at}
use Rattle.item_names.proofs.Ways.{Stands, first_stand, next_stand, here_now}
use Rattle.item_names.proofs.circles.is_reached.Goals as goal

pub loop-left-init : goal.loop-left-init
loop-left-init c =
    let none = c.in_ok-seen.ensures in
    let from = c.args.from.now in
    first_stand c.args.parts.now c.args.to c.requires from c.in_ok-seen.seen c.add_unseen.new.seen c.add_unseen.new.front none.0 none.1 (c.in_ok-add_unseen.ensures ∙ ap (λ (f : List ℕ). fold mark (c.in_ok-seen.seen, f) from) c.new-front.ensures)

pub returns-then-is_among : goal.returns-then-is_among
returns-then-is_among c =
    let in_front = ap (has c.args.to) (sym c.as_slice.ensures) ∙ sym c.is_among.ensures ∙ c.if-is_among.true in
    sym (here_now c.args.parts.now c.args.to c.requires c.loop-left.left c.loop-left.front in_front) ∙ c.loop-left.invariant.same

pub loop-left-preserved : goal.loop-left-preserved
loop-left-preserved c =
    let one : c.loop-left.left ≡ suc (c.loop-left.left - 1) = omega (arith, c.loop-left-test.true) in
    let parts = c.args.parts.now in
    let to = c.args.to in
    let stands = subst (Stands parts to c.args.from.now c.loop-left.seen c.loop-left.front) one c.loop-left.invariant in
    let not_here = ap (has to) (sym c.as_slice.ensures) ∙ sym c.is_among.ensures ∙ c.if-is_among.false in
    next_stand parts to c.requires c.args.from.now c.loop-left.seen c.loop-left.front (c.loop-left.left - 1) stands not_here c.next_front.new.seen c.in_ok-front.front (c.in_ok-front.ensures ∙ ap (λ (f : List ℕ). fold mark (c.loop-left.seen, []) (flat_map (parts_at parts) f)) c.as_slice-in-loop-left.ensures)

pub returns : goal.returns
returns c =
    let none : c.loop-left.left ≡ 0 = omega (arith, c.loop-left-test.false) in
    let parts = c.args.parts.now in
    let to = c.args.to in
    c.is_among-2.ensures
    ∙ ap (has to) c.as_slice-2.ensures
    ∙ ap (λ n. list_any (leads parts to n) c.loop-left.front) (sym none)
    ∙ c.loop-left.invariant.same
