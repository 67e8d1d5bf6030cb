use Rattle.std.proofs.Common.{ℕ, List, map, ap, ◌∙◌, subst}
use Rattle.ir_core.specs.Given.{local_names}
use Rattle.ir_tables.specs.Names.{HasPlaces}
use Rattle.name_tables.specs.Kept.{all_seen, kept_name}
use Rattle.name_tables.proofs.Names.{same_names}
use Rattle.name_tables.proofs.locals.Scope.of.Goals as goal

pub invariant_of-result : goal.invariant_of-result
invariant_of-result c =
    let kept = c.in_ok-names.ensures in
    record {
      places = subst (λ (ns : List (List ℕ)). HasPlaces ns c.in_ok-places_of.field-0) (ap (λ ks. map kept_name (all_seen ks)) c.as_slice.ensures ∙ ap (map kept_name) kept ∙ same_names (local_names c.args.f.now)) c.in_ok-places_of.ensures;
      names = kept;
    }
