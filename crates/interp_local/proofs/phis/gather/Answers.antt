use Rattle.std.proofs.Common.{subst, ◌≡◌, Some, Ok, refl, sym, ap, ◌∙◌, length, rules, ◌+◌}
use Rattle.std.specs.Prelude.{slice_get}
use Rattle.std.proofs.lemmas.Option.{slice_get_read}
use Rattle.ir_core.specs.Places.{edge_from}
use Rattle.mem_model.specs.Next.{phi_word}
use Rattle.interp_local.specs.Operands.{registers}
use Rattle.interp_local.proofs.Branches.{Gathers, some_of, none_of, drop_get, not_phis, no_phis, gathered_all, gathered_err, gathers_none, gathers_some}
use Rattle.interp_local.proofs.phis.gather.Goals as goal
use Rattle.interp_local.proofs.phis.gather.Goals.{then-is_some, else-is_some}

pub returns-in_default : goal.returns-in_default
returns-in_default c =
    let insts = c.args.insts.now in
    let n = c.loop-inst.inst-index in
    let i = c.inst-item.result in
    let there : slice_get insts n ≡ Some i = slice_get_read insts (length insts) n i refl (search rules) (search rules) in
    gathered_all c.args.m.now c.args.from.now insts c.args.s.now c.loop-inst.s n c.loop-inst.kept c.loop-inst.invariant (not_phis insts n i (drop_get insts n i there) c.in_default.not-Phi)

pub returns-in_err-word : goal.returns-in_err-word
returns-in_err-word c =
    let insts = c.args.insts.now in
    let n = c.loop-inst.inst-index in
    let i = c.inst-item.result in
    let there : slice_get insts n ≡ Some i = slice_get_read insts (length insts) n i refl (search rules) (search rules) in
    gathered_err c.args.m.now c.args.from.now insts c.args.s.now c.loop-inst.s n c.loop-inst.kept c.loop-inst.invariant i c.in-Phi.ty c.in-Phi.edges c.in_err-word.field-0.0 _ (drop_get insts n i there) c.in-Phi.is
    (ap (λ es. phi_word c.args.m.now (registers c.args.m.now c.loop-inst.s) (edge_from es c.args.from.now)) (sym c.as_slice.ensures) ∙ sym c.phi_word.ensures ∙ c.in_err-word.was)
    (search rules)

pub loop-inst-preserved : goal.loop-inst-preserved
loop-inst-preserved c =
    let m = c.args.m.now in
    let from = c.args.from.now in
    let insts = c.args.insts.now in
    let s0 = c.args.s.now in
    let s = c.loop-inst.s in
    let n = c.loop-inst.inst-index in
    let kept = c.loop-inst.kept in
    let i = c.inst-item.result in
    let there : slice_get insts n ≡ Some i = slice_get_read insts (length insts) n i refl (search rules) (search rules) in
    let word : phi_word m (registers m s) (edge_from c.in-Phi.edges from) ≡ Ok c.in_ok-word.word =
    ap (λ es. phi_word m (registers m s) (edge_from es from)) (sym c.as_slice.ensures) ∙ sym c.phi_word.ensures ∙ c.in_ok-word.was in
    elim c.if-is_some.branch [
      | then-is_some w ↦
          let x = some_of i.result c.is_some.result c.is_some.ensures w.if-is_some.true in
          subst (λ z. Gathers m from insts s0 z (n + 1) c.if-is_some.kept) (sym w.s-is)
          (subst (λ k. Gathers m from insts s0 w.keep.new.self (n + 1) k) (sym w.kept-is)
          (gathers_some m from insts s0 s n kept c.loop-inst.invariant i c.in-Phi.ty c.in-Phi.edges (drop_get insts n i there) c.in-Phi.is c.in_ok-word.word x.0 w.keep.new.self x.1 word w.keep.ensures.room (w.keep.ensures.same m)))
      | else-is_some w ↦
          subst (λ z. Gathers m from insts s0 z (n + 1) c.if-is_some.kept) (sym w.s-is)
          (subst (λ k. Gathers m from insts s0 s (n + 1) k) (sym w.kept-is)
          (gathers_none m from insts s0 s n kept c.loop-inst.invariant i c.in-Phi.ty c.in-Phi.edges (drop_get insts n i there) c.in-Phi.is c.in_ok-word.word (none_of i.result c.is_some.result c.is_some.ensures w.if-is_some.false) word))
    ]

pub returns : goal.returns
returns c =
    gathered_all c.args.m.now c.args.from.now c.args.insts.now c.args.s.now c.loop-inst.s c.loop-inst.inst-index c.loop-inst.kept c.loop-inst.invariant (no_phis c.args.insts.now c.loop-inst.inst-index (search rules))
