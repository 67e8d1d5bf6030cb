use Rattle.std.proofs.Common.{◌∙◌}
use Rattle.ir_core.specs.Places.{function_name}
use Rattle.name_tables.proofs.First.{found_at}
use Rattle.shapes.specs.Facts.{operand_of}
use Rattle.wrapper_shapes.proofs.ForkLaws.{wrapper_is}
use Rattle.wrapper_shapes.proofs.forks.wrapper_place.Goals as goal

pub returns-in-Global : goal.returns-in-Global
returns-in-Global c =
    let m = c.args.m.now in
    found_at function_name m.functions c.in-Global.name c.function.result c.function.ensures
    ∙ wrapper_is m (operand_of c.args.fork.now 6) c.in-Some.operand.now c.in-Global.name c.in-Some.ensures c.in-Global.is
