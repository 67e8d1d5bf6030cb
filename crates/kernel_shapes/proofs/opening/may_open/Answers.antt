use Rattle.std.proofs.Common.{◌∙◌, ap, sym}
use Rattle.shapes.specs.KernelShape.{makes_own, may_open}
use Rattle.kernel_shapes.specs.Own.{names_where}
use Rattle.kernel_shapes.proofs.OwnLaws.{own_in}
use Rattle.kernel_shapes.proofs.opening.may_open.Goals as goal

pub returns-in-Load : goal.returns-in-Load
returns-in-Load c = λ insts has.
    c.is_register_in.ensures (names_where (makes_own insts) insts) has ∙ own_in insts c.in-Load.at.value ∙ ap (may_open insts) (sym c.in-Load.is)

pub returns-in-Store : goal.returns-in-Store
returns-in-Store c = λ insts has.
    c.is_register_in-in-Store.ensures (names_where (makes_own insts) insts) has ∙ own_in insts c.in-Store.at.value ∙ ap (may_open insts) (sym c.in-Store.is)
