use Rattle.std.proofs.Common.{ap, ◌∙◌}
use Rattle.ir_core.specs.NameRefusals.{least}
use Rattle.shape_facts.proofs.InstLaws.{two_told}
use Rattle.shapes.specs.Insts.{insts_seen}
use Rattle.shapes.specs.KernelShape.{spmd_inputs, exec_mode, of_exec_mode, of_code, of_generic}
use Rattle.kernel_shapes.proofs.KernelLaws.{in_spmd, in_generic, spmd_told}
use Rattle.kernel_shapes.proofs.kernels.of_kernel.Goals as goal

pub of_code-requires : goal.of_code-requires
of_code-requires c = ap insts_seen c.as_slice-in-None.ensures ∙ c.in_ok-insts.ensures

pub returns-in-Some : goal.returns-in-Some
returns-in-Some c =
    let m = c.args.m.now in
    let f = c.args.f.now in
    in_spmd (spmd_inputs m f) (of_generic m f) c.in-Some.refusal
    (c.in-Some.ensures ∙ spmd_told _ _ _ _ (ap insts_seen c.as_slice.ensures ∙ c.in_ok-insts.ensures) c.in_ok-mode.ensures)

pub returns : goal.returns
returns c =
    let m = c.args.m.now in
    let f = c.args.f.now in
    in_generic (spmd_inputs m f) (of_generic m f) _
    (c.in-None.ensures ∙ spmd_told _ _ _ _ (ap insts_seen c.as_slice.ensures ∙ c.in_ok-insts.ensures) c.in_ok-mode.ensures)
    (c.earlier.ensures
    ∙ two_told (of_exec_mode m (exec_mode m f)) (of_code m f) _ _
    (c.of_exec_mode-global.ensures m c.requires ∙ ap (λ g. least (of_exec_mode m g)) c.in_ok-mode.ensures)
    (c.in_ok-code-in-None.ensures m c.requires))
