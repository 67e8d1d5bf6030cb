use Rattle.spmd_judge.proofs.functions.is_on_other_side.Goals as goal

pub returns-then-other-kernel : goal.returns-then-other-kernel
returns-then-other-kernel c = (λ e. (c.if-other-kernel.true, c.is_on_main_side_of.ensures.0 e), λ h. c.is_on_main_side_of.ensures.1 h.1)
