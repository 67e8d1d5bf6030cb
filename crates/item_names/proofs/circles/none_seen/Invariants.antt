use Rattle.std.proofs.Common.{◌≡◌, ℕ, length, false}
use Rattle.item_names.specs.Circles.{marked}
use Rattle.item_names.proofs.circles.none_seen.Given as goal

abbrev pub invariant-loop : goal.invariant-loop
invariant-loop l = record {
  size : length l.seen ≡ l.counter;
  none : (q : ℕ) → marked l.seen q ≡ false;
}
