use Rattle.std.proofs.Common.{◌∙◌, ap, sym}
use Rattle.shapes.specs.KernelShape.{makes_block, makes_own}
use Rattle.kernel_shapes.specs.Own.{names_where}
use Rattle.kernel_shapes.proofs.OwnLaws.{alloca_in}
use Rattle.kernel_shapes.proofs.own.is_own.Goals as goal

pub returns-in-Gep : goal.returns-in-Gep
returns-in-Gep c = λ insts has.
    c.is_register_in.ensures (names_where makes_block insts) has ∙ alloca_in insts c.in-Gep.base.value ∙ ap (makes_own insts) (sym c.in-Gep.is)
