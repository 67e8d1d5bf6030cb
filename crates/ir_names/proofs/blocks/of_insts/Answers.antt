use Rattle.std.proofs.Common.{◌≡◌, ◌&&◌, sym, ap, ◌∙◌}
use Rattle.ir_core.specs.Typing.{scope_of}
use Rattle.ir_core.specs.NameRefusals.{is_phi}
use Rattle.ir_names.proofs.BlockLaws.{inst_more}
use Rattle.ir_names.proofs.blocks.of_insts.Goals as goal
use Rattle.ir_names.proofs.blocks.of_insts.Goals.{then-only_phis, else-only_phis}

pub loop-inst-preserved : goal.loop-inst-preserved
loop-inst-preserved c =
    let inst = c.inst-item.result in
    let phis = c.loop-inst.only_phis in
    let next : c.if-only_phis.only_phis ≡ (phis && is_phi inst.kind) =
    elim c.if-only_phis.branch [
      | then-only_phis w ↦ w.only_phis-is ∙ w.is_phi-only_phis.ensures ∙ ap (λ b. b && is_phi inst.kind) (sym w.if-only_phis.true)
      | else-only_phis w ↦ w.only_phis-is ∙ w.if-only_phis.false ∙ ap (λ b. b && is_phi inst.kind) (sym w.if-only_phis.false)
    ] in
    inst_more (scope_of c.args.body.now.0 c.args.body.now.1) c.args.block.now c.args.insts.now c.loop-inst.inst-index inst inst c.loop-inst-test.true c.inst-item.is phis
    c.if-only_phis.only_phis c.loop-inst.found c.earlier-found.result c.in_ok-of_inst.field-0 next c.in_ok-of_inst.ensures c.earlier-found.ensures
    ∙ c.loop-inst.invariant
