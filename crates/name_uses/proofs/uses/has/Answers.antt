use Rattle.std.proofs.Common.{ap, ◌∙◌}
use Rattle.std.specs.Option.{is_some}
use Rattle.ir_tables.specs.Names.{found_place}
use Rattle.name_uses.proofs.UseLaws.{placed}
use Rattle.name_uses.proofs.uses.has.Goals as goal

pub returns : goal.returns
returns c names places =
    let found = c.place.ensures ∙ ap (found_place c.args.table.now) c.as_slice.ensures ∙ places c.args.name.now in
    c.is_some.ensures ∙ ap is_some found ∙ placed names c.args.name.now
