use Rattle.std.proofs.Common.{ap, ◌∙◌}
use Rattle.ir_core.specs.Wrappers.{is_in}
use Rattle.ir_tables.specs.Names.{names_seen}
use Rattle.ir_names.proofs.BranchLaws.{inserted}
use Rattle.ir_names.proofs.branches.add_block.Goals as goal

pub returns-in-Ok : goal.returns-in-Ok
returns-in-Ok c = λ y. ap (λ ks. is_in (names_seen ks) y) c.in-Ok.ensures.keys ∙ inserted c.args.blocks.now.keys _ y
