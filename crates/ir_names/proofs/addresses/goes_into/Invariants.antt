use Rattle.std.proofs.Common.{◌≡◌, drop}
use Rattle.ir_core.specs.Typing.{goes_into}
use Rattle.ir_names.proofs.addresses.goes_into.Given as goal

-- the answer for the rest is the answer for all
abbrev pub invariant-loop-v : goal.invariant-loop-v
invariant-loop-v l = goes_into l.tables (drop l.v-index l.path) l.inside ≡ goes_into l.tables l.path l.ty
