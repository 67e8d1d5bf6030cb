use Rattle.std.proofs.Common.{sym}
use Rattle.item_names.proofs.Pairs.{uneven_parts}
use Rattle.item_names.proofs.initializers.are_pairwise_same.Goals as goal

pub returns-then-fields-parts : goal.returns-then-fields-parts
returns-then-fields-parts c = sym (uneven_parts c.args.fields.now c.args.parts.now c.if-fields-parts.true)
