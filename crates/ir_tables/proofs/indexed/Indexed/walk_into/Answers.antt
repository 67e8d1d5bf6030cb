use Rattle.std.proofs.Common.{ℤ, subst}
use Rattle.std.specs.Int.{w64}
use Rattle.std.proofs.lemmas.Int.{to_z-of_z}
use Rattle.ir_tables.specs.Walk.{WalksInto}
use Rattle.ir_tables.proofs.indexed.Indexed.walk_into.Goals as goal

pub returns : goal.returns
returns c = λ well. subst (λ (i : ℤ). WalksInto c.args.self.now.types c.args.walk i c.walk_into.result) (to_z-of_z w64 c.args.index c.ranges.index) (c.walk_into.ensures c.args.self.now.types c.named.ensures well)
