use Rattle.std.proofs.Common.{◌≡◌, true, false, refl}
use Rattle.std.proofs.lemmas.Result.{err_from_is_err_and}
use Rattle.read_forms.specs.Read.{head, at_mark, after_comma_at, more_at}
use Rattle.read_items.specs.Inits.{element_at, init_in_at}
use Rattle.read_forms.proofs.Many.{loop_fails, loop_more, loop_ends}
use Rattle.read_forms.proofs.Lists.{after_comma_shrinks}
use Rattle.read_items.proofs.InitLaws.{element_shrinks}
use Rattle.read_items.proofs.inits.+read_init.Goals as goal

pub read_more_elements-returns-in_err-element : goal.read_more_elements-returns-in_err-element
read_more_elements-returns-in_err-element t c =
    let p = err_from_is_err_and c.from_residual.result c.from_residual.ensures.1 in
    let more : at_mark 44 (head c.loop-alloc.rest) ≡ true = cc in
    let f = element_at (init_in_at c.args.depth) in
    rw (p.1, p.2) (loop_fails (at_mark 44) (after_comma_at f) (after_comma_shrinks f (element_shrinks c.args.depth)) refl (more_at f c.args.before c.args.ahead) c.loop-alloc.elements c.loop-alloc.rest c.loop-alloc.invariant c.in_err-element.field-0.0 more c.in_err-element.ensures)

pub read_more_elements-loop-alloc-smaller : goal.read_more_elements-loop-alloc-smaller
read_more_elements-loop-alloc-smaller t c = after_comma_shrinks (element_at (init_in_at c.args.depth)) (element_shrinks c.args.depth) c.loop-alloc.rest c.in_ok-element.element c.in_ok-element.after c.in_ok-element.ensures

pub read_more_elements-loop-alloc-preserved : goal.read_more_elements-loop-alloc-preserved
read_more_elements-loop-alloc-preserved t c =
    let more : at_mark 44 (head c.loop-alloc.rest) ≡ true = cc in
    let f = element_at (init_in_at c.args.depth) in
    rw c.in_ok-push.ensures.ok (loop_more (at_mark 44) (after_comma_at f) (after_comma_shrinks f (element_shrinks c.args.depth)) refl (more_at f c.args.before c.args.ahead) c.loop-alloc.elements c.loop-alloc.rest c.loop-alloc.invariant c.in_ok-element.after c.in_ok-element.element more c.in_ok-element.ensures)

pub read_more_elements-returns : goal.read_more_elements-returns
read_more_elements-returns t c =
    let none : at_mark 44 (head c.loop-alloc.rest) ≡ false = cc in
    let f = element_at (init_in_at c.args.depth) in
    loop_ends (at_mark 44) (after_comma_at f) (after_comma_shrinks f (element_shrinks c.args.depth)) refl (more_at f c.args.before c.args.ahead) c.loop-alloc.elements c.loop-alloc.rest c.loop-alloc.invariant none
