use Rattle.std.proofs.Common.{◌<◌, sym, ap, ◌∙◌, subst, arith, rules, refl}
use Rattle.std.proofs.lemmas.Option.{slice_get_read}
use Rattle.thread_state.proofs.Stacks.{above_middle, below_middle}
use Rattle.thread_state.proofs.stack.block_place.Goals as goal

pub returns-then-found-number-clause-place : goal.returns-then-found-number-clause-place
returns-then-found-number-clause-place c = λ least are.
    let b = c.index-stack-middle.result in
    (b, slice_get_read c.args.stack.now _ _ b refl (search rules) c.index-stack-middle.is, ap (λ d. d.number) c.index-stack-middle.is ∙ c.if-found-number.true)

pub loop-low-preserved-then-found-number-2 : goal.loop-low-preserved-then-found-number-2
loop-low-preserved-then-found-number-2 c =
    let b = c.index-stack-middle.result in
    let at = slice_get_read c.args.stack.now _ _ b refl (search rules) c.index-stack-middle.is in
    let less : b.number < c.args.number = subst (λ d. d.number < c.args.number) (sym c.index-stack-middle.is) c.if-found-number-2.true in
    (search rules, search rules, λ least are. above_middle least c.args.stack.now are c.args.number c.loop-low.low c.loop-low.high _ b at (c.loop-low.invariant.2 least are) less)

pub loop-low-preserved : goal.loop-low-preserved
loop-low-preserved c =
    let b = c.index-stack-middle.result in
    let at = slice_get_read c.args.stack.now _ _ b refl (search rules) c.index-stack-middle.is in
    let same = ap (λ d. d.number) c.index-stack-middle.is in
    let other = c.if-found-number.false in
    let not_less = c.if-found-number-2.false in
    (search rules, search rules, λ least are. below_middle least c.args.stack.now are c.args.number c.loop-low.low c.loop-low.high _ b at (c.loop-low.invariant.2 least are) (omega (arith, same, other, not_less)))
