use Rattle.ir_core.specs.Wrappers.{region_function}
use Rattle.wrapper_shapes.proofs.ForkLaws.{region_there}
use Rattle.wrapper_shapes.proofs.forks.region_at.Goals as goal

pub returns-in-Some : goal.returns-in-Some
returns-in-Some c =
    region_there (region_function c.args.m.now) c.args.regions.now c.args.m.now.functions c.args.at c.in-Some.region.now c.in-Some.ensures.lookup.3.0 c.in-Some.ensures.lookup.1 c.requires
