use Rattle.std.proofs.Common.{◌≡◌, true, false, refl}
use Rattle.std.proofs.lemmas.Result.{err_from_is_err_and}
use Rattle.read_forms.specs.Read.{head, at_mark, after_comma_at, more_at}
use Rattle.read_forms.specs.Forms.{type_in_at}
use Rattle.read_forms.proofs.Many.{loop_fails, loop_more, loop_ends}
use Rattle.read_forms.proofs.Lists.{after_comma_shrinks}
use Rattle.read_forms.proofs.Laws.{type_in_shrinks}
use Rattle.read_forms.proofs.types.+read_type.Goals as goal

pub read_more_fields-returns-in_err-field : goal.read_more_fields-returns-in_err-field
read_more_fields-returns-in_err-field t c =
    let p = err_from_is_err_and c.from_residual.result c.from_residual.ensures.1 in
    let more : at_mark 44 (head c.loop-alloc.rest) ≡ true = cc in
    let f = type_in_at c.args.depth in
    rw (p.1, p.2) (loop_fails (at_mark 44) (after_comma_at f) (after_comma_shrinks f (type_in_shrinks c.args.depth)) refl (more_at f c.args.before c.args.ahead) c.loop-alloc.fields c.loop-alloc.rest c.loop-alloc.invariant c.in_err-field.field-0.0 more c.in_err-field.ensures)

pub read_more_fields-loop-alloc-smaller : goal.read_more_fields-loop-alloc-smaller
read_more_fields-loop-alloc-smaller t c = after_comma_shrinks (type_in_at c.args.depth) (type_in_shrinks c.args.depth) c.loop-alloc.rest c.in_ok-field.field c.in_ok-field.after c.in_ok-field.ensures

pub read_more_fields-loop-alloc-preserved : goal.read_more_fields-loop-alloc-preserved
read_more_fields-loop-alloc-preserved t c =
    let more : at_mark 44 (head c.loop-alloc.rest) ≡ true = cc in
    let f = type_in_at c.args.depth in
    rw c.in_ok-push.ensures.ok (loop_more (at_mark 44) (after_comma_at f) (after_comma_shrinks f (type_in_shrinks c.args.depth)) refl (more_at f c.args.before c.args.ahead) c.loop-alloc.fields c.loop-alloc.rest c.loop-alloc.invariant c.in_ok-field.after c.in_ok-field.field more c.in_ok-field.ensures)

pub read_more_fields-returns : goal.read_more_fields-returns
read_more_fields-returns t c =
    let none : at_mark 44 (head c.loop-alloc.rest) ≡ false = cc in
    let f = type_in_at c.args.depth in
    loop_ends (at_mark 44) (after_comma_at f) (after_comma_shrinks f (type_in_shrinks c.args.depth)) refl (more_at f c.args.before c.args.ahead) c.loop-alloc.fields c.loop-alloc.rest c.loop-alloc.invariant none
