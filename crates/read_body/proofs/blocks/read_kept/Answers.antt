use Rattle.std.proofs.Common.{◌≡◌, true, false}
use Rattle.std.proofs.lemmas.Result.{err_from_is_err_and}
use Rattle.read_forms.specs.Read.{head}
use Rattle.read_body.specs.Body.{plain_goes, kept_at}
use Rattle.read_body.proofs.Laws.{plain_shrinks}
use Rattle.read_body.proofs.Kept.{kept_more, kept_ends, kept_fails}
use Rattle.read_body.proofs.blocks.read_kept.Goals as goal

pub returns-in_err-inst : goal.returns-in_err-inst
returns-in_err-inst c =
    let p = err_from_is_err_and c.from_residual.result c.from_residual.ensures.1 in
    let more : plain_goes (head c.loop-alloc.rest) ≡ true = cc in
    rw (p.1, p.2) (kept_fails (kept_at c.args.ahead) c.loop-alloc.out c.loop-alloc.rest c.loop-alloc.invariant c.in_err-inst.field-0.0 more c.in_err-inst.ensures)

pub loop-alloc-smaller : goal.loop-alloc-smaller
loop-alloc-smaller c = plain_shrinks c.loop-alloc.rest c.in_ok-inst.inst c.in_ok-inst.after c.in_ok-inst.ensures

pub loop-alloc-preserved : goal.loop-alloc-preserved
loop-alloc-preserved c =
    let more : plain_goes (head c.loop-alloc.rest) ≡ true = cc in
    rw c.in_ok-push_kept.ensures (kept_more (kept_at c.args.ahead) c.loop-alloc.out c.loop-alloc.rest c.loop-alloc.invariant c.in_ok-inst.after c.in_ok-inst.inst more c.in_ok-inst.ensures)

pub returns : goal.returns
returns c =
    let none : plain_goes (head c.loop-alloc.rest) ≡ false = cc in
    kept_ends (kept_at c.args.ahead) c.loop-alloc.out c.loop-alloc.rest c.loop-alloc.invariant none
