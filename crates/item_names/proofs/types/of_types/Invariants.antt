use Rattle.item_names.proofs.TypeLaws.{TypesTold}
use Rattle.item_names.proofs.types.of_types.Given as goal

abbrev pub invariant-loop-at : goal.invariant-loop-at
invariant-loop-at l = TypesTold l.tables l.types l.at l.found
