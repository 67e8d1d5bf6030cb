use Rattle.std.proofs.Common.{◌∷◌, ap, ◌∙◌, not}
use Rattle.ir_core.specs.NameRefusals.{least, repeated_by_line}
use Rattle.name_tables.specs.Least.{or_first}
use Rattle.item_names.specs.Repeated.{is_earliest}
use Rattle.item_names.proofs.Entries.{no_entry, here, rest, one_before, one_found}
use Rattle.item_names.proofs.repeated.repeated_by_line.Goals as goal

pub loop-at-preserved : goal.loop-at-preserved
loop-at-preserved c =
    let es = c.args.entries.now in
    let at = c.loop-at.at in
    let low = c.loop-at-test.true in
    let before = c.loop-at.invariant.0 in
    let same = c.loop-at.invariant.1 in
    let second = ap not (c.is_first-second.ensures ∙ ap (is_earliest at) (c.requires (here es at no_entry low).0)) in (
      here es at no_entry low ∷ before,
      one_before es at no_entry low before same,
      ap (λ o. or_first o (least (repeated_by_line (here es at no_entry low ∷ before) (rest es at no_entry low)))) (c.earlier-found.ensures ∙ ap (or_first c.loop-at.found) c.if_second.ensures)
          ∙ one_found es at no_entry low before c.loop-at.found (not c.is_first-second.result) same second
          ∙ c.loop-at.invariant.2,
    )
