use Rattle.std.proofs.Common.{◌≡◌, ◌<◌, ℕ, true, Some, slice_get}
use Rattle.call_paths.proofs.regions.share_mark.Given as goal

abbrev pub invariant-loop-at : goal.invariant-loop-at
invariant-loop-at l = (at : ℕ) → at < l.at → slice_get l.row at ≡ Some true → slice_get l.other at ≡ Some true → ⊥
