use Rattle.std.proofs.lemmas.Result.{err_from_is_err_and}
use Rattle.read_items.proofs.Text.{module_found, tokens_refused}
use Rattle.read_items.proofs.items.read_tokens.Goals as goal

pub returns-in_err-module-clause-refused : goal.returns-in_err-module-clause-refused
returns-in_err-module-clause-refused c =
    let p = err_from_is_err_and c.from_residual.result c.from_residual.ensures.1 in
    rw (p.1, p.2) (tokens_refused c.args.ahead c.in_err-module.field-0.0 c.in_err-module.ensures)

pub returns-clause-found : goal.returns-clause-found
returns-clause-found c = module_found c.args.ahead c.in_ok-module.module c.in_ok-module.field-0-1 c.in_ok-module.ensures
