use Rattle.std.proofs.Common.{sym}
use Rattle.ir_names.proofs.ListLaws.{uneven}
use Rattle.ir_names.proofs.calls.are_arguments.Goals as goal

pub returns-then-params-operands : goal.returns-then-params-operands
returns-then-params-operands c = sym (uneven c.args.params.now c.args.operands.now c.if-params-operands.true)
