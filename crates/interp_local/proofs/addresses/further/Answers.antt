use Rattle.std.specs.Int.{w64}
use Rattle.std.proofs.lemmas.Int.{to_z-of_z}
use Rattle.interp_local.proofs.Elements.{goes_some}
use Rattle.interp_local.proofs.addresses.further.Goals as goal

pub returns-in-Some : goal.returns-in-Some
returns-in-Some c = λ ty front h.
    goes_some c.args.m.now.types ty front c.args.index _ c.args.walk c.in-Some.walk c.walk_into.result c.in-Some.is (to_z-of_z w64 c.args.index c.ranges.index) c.walk_into.ensures h
