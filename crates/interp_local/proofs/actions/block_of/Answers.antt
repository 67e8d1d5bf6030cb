use Rattle.std.proofs.Common.{sym, rules}
use Rattle.ir_core.specs.Layout.{Size}
use Rattle.interp_local.proofs.Decides.{block_large, block_small, block_goes, within_limit}
use Rattle.interp_local.proofs.actions.block_of.Goals as goal

pub returns-then-size-gt-BLOCK_LIMIT-clause-value : goal.returns-then-size-gt-BLOCK_LIMIT-clause-value
returns-then-size-gt-BLOCK_LIMIT-clause-value c = sym (block_large (Size c.args.m.now.types c.args.ty.now) c.size_of-size.result c.size_of-size.ensures (search rules))

pub returns-clause-value : goal.returns-clause-value
returns-clause-value c =
    let size = Size c.args.m.now.types c.args.ty.now in
    block_goes size c.size_of-size.result (block_small size c.size_of-size.result c.size_of-size.ensures (search rules)) (search rules)

pub returns-clause-is : goal.returns-clause-is
returns-clause-is c = within_limit c.size_of-size.result (search rules)
