use Rattle.std.proofs.Common.{◌∙◌}
use Rattle.std.specs.Option.{option_copied}
use Rattle.shape_facts.proofs.InstLaws.{two_told}
use Rattle.kernel_shapes.specs.Ends.{of_return, of_deinit}
use Rattle.kernel_shapes.proofs.ends.of_end.Goals as goal

pub returns : goal.returns
returns c =
    let i = c.args.inst.now in
    c.earlier.ensures
    ∙ two_told (of_return c.args.free (option_copied c.args.before) i) (of_deinit i c.args.behind.now) c.of_return.result c.of_deinit.result c.of_return.ensures c.of_deinit.ensures
