use Rattle.std.proofs.lemmas.Result.{err_from_is_err_and}
use Rattle.formed_laws.proofs.Reading.{read_is_formed}
use Rattle.opt_core.proofs.Answers.{are_bytes, not_read, not_checked, is_taken, not_taken}
use Rattle.opt_core.proofs.reply.read_checked.Goals as goal

pub check-requires : goal.check-requires
check-requires c = read_is_formed c.args.text.now c.in_ok-m.m (are_bytes c.args.text.now c.type_inv.text) c.in_ok-m.ensures.found

pub returns-in_err-m-clause-refused : goal.returns-in_err-m-clause-refused
returns-in_err-m-clause-refused c =
    let p = err_from_is_err_and c.from_residual.result c.from_residual.ensures.1 in
    rw (p.1, p.2) (not_read c.args.text.now c.in_err-m.field-0.0 c.in_err-m.ensures.refused)

pub returns-in_err-checked-clause-refused : goal.returns-in_err-checked-clause-refused
returns-in_err-checked-clause-refused c =
    let p = err_from_is_err_and c.from_residual-in_err-checked.result c.from_residual-in_err-checked.ensures.1 in
    rw (p.1, p.2) (not_checked c.args.text.now c.in_ok-m.m c.in_err-checked.field-0.0 c.in_ok-m.ensures.found c.in_err-checked.ensures.refused)

pub returns-clause-refused : goal.returns-clause-refused
returns-clause-refused c =
    not_taken c.args.text.now c.in_ok-m.m c.in_ok-checked.checked c.in_ok-m.ensures.found (c.in_ok-checked.ensures.same, c.in_ok-checked.ensures.passed) c.built.result c.built.ensures.refused

pub returns-clause-taken : goal.returns-clause-taken
returns-clause-taken c =
    is_taken c.args.text.now c.in_ok-m.m c.in_ok-checked.checked c.in_ok-m.ensures.found (c.in_ok-checked.ensures.same, c.in_ok-checked.ensures.passed) c.built.result c.built.ensures.same
