use Rattle.std.proofs.Common.{◌≡◌, ◌+◌, List, false, true, arith, length, subst, sym, ◌∙◌}
use Rattle.register_hops.specs.declared.hops.Hop.{Hop}
use Rattle.pointer_facts.specs.SideHops.{IsHopAt, IsHopBefore, AddsHops}
use Rattle.pointer_facts.proofs.SideLaws.{adds_first, adds_next, adds_all, adds_on, adds_off}
use Rattle.pointer_facts.proofs.sides.add_side.Goals as goal
use Rattle.pointer_facts.proofs.sides.add_side.Goals.{then-is_on+in_ok-add_function, else-is_on}

pub loop-function-preserved : goal.loop-function-preserved
loop-function-preserved c =
    let m = c.args.m.now in
    let side = c.args.side in
    let at = c.loop-function.function in
    let old = c.args.hops.now in
    let mid = c.loop-function.hops in
    let P : List Hop → Type 0 = λ hops. AddsHops (IsHopBefore m side (at + 1)) old hops in
    elim c.if-is_on.branch [
      | then-is_on+in_ok-add_function w ↦
          subst P (sym w.hops-is)
          (adds_next (IsHopAt m side) at old mid w.add_function.new.hops c.loop-function.invariant (adds_on m side at mid w.add_function.new.hops (c.is_on.ensures.0 w.if-is_on.true) w.in_ok-add_function.ensures))
      | else-is_on w ↦
          subst P (sym w.hops-is)
          (adds_next (IsHopAt m side) at old mid mid c.loop-function.invariant (adds_off m side at mid mid (λ on. let is = c.is_on.ensures.1 on in let not = w.if-is_on.false in let f : ⊥ = cc in f)))
    ]

pub returns : goal.returns
returns c =
    let m = c.args.m.now in
    let end : c.loop-function.function ≡ length m.functions = omega (arith, c.loop-function-test.false, c.loop-function.auto.function-end, c.len-function-end.ensures) in
    adds_all (IsHopAt m c.args.side) (length m.functions) c.loop-function.function c.args.hops.now c.loop-function.hops end c.loop-function.invariant
