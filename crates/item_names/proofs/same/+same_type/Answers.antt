use Rattle.std.proofs.Common.{sym}
use Rattle.item_names.proofs.Pairs.{uneven_types}
use Rattle.item_names.proofs.same.+same_type.Goals as goal

pub same_types-returns-then-tys-others : goal.same_types-returns-then-tys-others
same_types-returns-then-tys-others t c = sym (uneven_types c.args.tys.now c.args.others.now c.if-tys-others.true)
