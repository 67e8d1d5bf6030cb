use Rattle.std.proofs.Common.{arith, ap, ◌∙◌}
use Rattle.std.proofs.lemmas.List.{take_all}
use Rattle.ir_core.specs.NameRefusals.{least}
use Rattle.std.specs.List.{flat_map}
use Rattle.std.specs.Option.{option_copied}
use Rattle.shape_facts.proofs.InstLaws.{inst_more, two_told}
use Rattle.shapes.specs.Insts.{insts_seen}
use Rattle.shapes.specs.KernelShape.{spmd_call, spmd_global}
use Rattle.kernel_shapes.proofs.modes.of_spmd.Goals as goal

pub loop-inst-preserved : goal.loop-inst-preserved
loop-inst-preserved c =
    let i = c.inst-item.result in
    let more = inst_more spmd_call c.args.insts.now c.loop-inst.inst-index i i c.loop-inst-test.true c.inst-item.is in
    cc

pub returns : goal.returns
returns c =
    let calls = flat_map spmd_call (insts_seen c.args.insts.now) in
    c.earlier.ensures ∙ two_told calls (spmd_global (option_copied c.args.global)) c.loop-inst.found c.spmd_global-behind.result (c.loop-inst.invariant ∙ ap (λ is. least (flat_map spmd_call (insts_seen is))) (take_all c.loop-inst.inst-index c.args.insts.now (omega arith))) c.spmd_global-behind.ensures
