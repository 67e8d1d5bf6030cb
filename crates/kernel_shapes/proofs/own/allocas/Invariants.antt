use Rattle.std.proofs.Common.{◌≡◌, take}
use Rattle.ir_tables.specs.Names.{names_seen}
use Rattle.shapes.specs.KernelShape.{makes_block}
use Rattle.kernel_shapes.specs.Own.{names_where}
use Rattle.kernel_shapes.proofs.own.allocas.Given as goal

abbrev pub invariant-loop-inst : goal.invariant-loop-inst
invariant-loop-inst l = names_seen l.names ≡ names_where makes_block (take l.inst-index l.insts)
