use Rattle.std.proofs.Common.{rules}
use Rattle.register_hops.specs.Roots.{param_root}
use Rattle.register_hops.proofs.PlacedLaws.{placed_more}
use Rattle.register_hops.proofs.roots.add_params.Goals as goal

pub loop-place-preserved : goal.loop-place-preserved
loop-place-preserved c =
    let m = c.args.numbering.now in
    let gives = param_root m c.args.origin c.args.at c.args.kernel c.args.region in
    placed_more gives c.args.params.now c.loop-place.place c.index-params-place.result c.args.roots.now c.loop-place.roots c.add_root.new.roots c.loop-place-test.true c.index-params-place.is c.loop-place.invariant (search rules)
