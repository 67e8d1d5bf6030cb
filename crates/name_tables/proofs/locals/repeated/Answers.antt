use Rattle.std.proofs.Common.{ap, sym, ◌∙◌}
use Rattle.ir_tables.specs.Names.{found_place}
use Rattle.name_tables.specs.Least.{or_first}
use Rattle.name_tables.proofs.RepeatedLaws.{kept_more}
use Rattle.name_tables.proofs.locals.repeated.Goals as goal

pub loop-at-preserved : goal.loop-at-preserved
loop-at-preserved c =
    c.earlier-found.ensures
    ∙ ap (λ o. or_first o c.if_second.result) c.loop-at.invariant
    ∙ ap (or_first _) c.if_second.ensures
    ∙ sym (kept_more c.args.names.now c.loop-at.at _ (found_place c.args.places.now) c.loop-at-test.true c.requires)
