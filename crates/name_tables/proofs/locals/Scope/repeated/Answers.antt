use Rattle.std.proofs.Common.{ℕ, List, [], map, ap, subst, sym, ◌∙◌}
use Rattle.ir_core.specs.declared.module.Module.{Module}
use Rattle.ir_core.specs.declared.module.Function.{Function}
use Rattle.ir_core.specs.Given.{LocalName, local_names}
use Rattle.ir_core.specs.NameRefusals.{repeated, least}
use Rattle.ir_tables.specs.Names.{HasPlaces}
use Rattle.name_tables.specs.Kept.{all_seen, kept_name}
use Rattle.name_tables.specs.Repeated.{kept_entry}
use Rattle.name_tables.proofs.Names.{same_names, same_entries}
use Rattle.name_tables.proofs.locals.Scope.repeated.Goals as goal

pub repeated-requires : goal.repeated-requires
repeated-requires c =
    subst (λ (ns : List (List ℕ)). HasPlaces ns c.self.inside.places)
    (sym (ap (λ ks. map kept_name (all_seen ks)) c.as_slice.ensures ∙ ap (map kept_name) c.self.invariant.names ∙ same_names (local_names c.self.inside.function.now)))
    c.self.invariant.places

pub returns : goal.returns
returns c =
    c.repeated.ensures
    ∙ ap (λ ks. least (repeated [] (map kept_entry (all_seen ks)))) c.as_slice.ensures
    ∙ ap (λ ks. least (repeated [] (map kept_entry ks))) c.self.invariant.names
    ∙ ap (λ es. least (repeated [] es)) (same_entries (local_names c.self.inside.function.now))
    ∙ ap (λ (s : Module × Function). least (repeated [] (map (λ (n : LocalName). (n.name, n.line)) (local_names s.1)))) c.self.view_is
