use Rattle.std.proofs.Common.{sym}
use Rattle.item_names.proofs.Pairs.{uneven_params}
use Rattle.item_names.proofs.headings.are_declared.Goals as goal

pub returns-then-wanted-params : goal.returns-then-wanted-params
returns-then-wanted-params c = sym (uneven_params c.args.wanted.now c.args.params.now c.if-wanted-params.true)
