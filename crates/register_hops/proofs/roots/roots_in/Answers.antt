use Rattle.std.proofs.Common.{[]}
use Rattle.register_hops.specs.Roots.{function_roots}
use Rattle.register_hops.proofs.PlacedLaws.{placed_more}
use Rattle.register_hops.proofs.roots.roots_in.Goals as goal

pub loop-at-preserved : goal.loop-at-preserved
loop-at-preserved c =
    placed_more (function_roots c.args.numbering.now c.args.origin) c.as_slice-functions.result.now c.loop-at.at c.index-functions-at.result [] c.loop-at.roots c.add_function.new.roots c.loop-at-test.true c.index-functions-at.is c.loop-at.invariant c.in_ok-add_function.ensures
