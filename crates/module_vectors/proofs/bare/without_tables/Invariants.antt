use Rattle.std.proofs.Common.{ℕ, ◌<◌, ◌^◌, length}
use Rattle.ir_core.specs.Places.{register_names}
use Rattle.module_vectors.proofs.bare.without_tables.Given as goal

-- the registers of the functions before this one are counted
abbrev pub invariant-loop-place : goal.invariant-loop-place
invariant-loop-place l = (f : ℕ) → f < l.place → length (register_names l.indexed f) < 2 ^ 64
