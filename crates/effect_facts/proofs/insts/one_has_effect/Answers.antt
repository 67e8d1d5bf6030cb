use Rattle.std.proofs.Common.{◌≡◌, Some, refl, slice_get, arith}
use Rattle.std.proofs.lemmas.Option.{slice_get_within}
use Rattle.ir_core.specs.declared.instructions.Inst.{Inst}
use Rattle.call_graph.proofs.ListLaws.{read_at}
use Rattle.value_facts.specs.Effects.{HasEffect}
use Rattle.effect_facts.proofs.EffectLaws.{none_more}
use Rattle.effect_facts.proofs.insts.one_has_effect.Goals as goal

pub loop-inst-preserved : goal.loop-inst-preserved
loop-inst-preserved c =
    let m = c.args.pointers.now in
    let insts = c.args.insts.now in
    let n = c.loop-inst.inst-index in
    let inst = c.inst-item.result in
    let there : slice_get insts n ≡ Some inst = read_at insts insts n inst refl c.loop-inst-test.true c.inst-item.is in
    none_more (λ (i : Inst). HasEffect m c.args.at i) insts n inst there
    (λ e. let is = c.has_effect.ensures.1 e in let no = c.if-has_effect.false in let f : ⊥ = cc in f)
    c.loop-inst.invariant

pub returns : goal.returns
returns c = (
  λ e. let f : ⊥ = cc in absurd f,
  λ h. let low = slice_get_within c.args.insts.now h.1 h.0 h.2 in absurd (c.loop-inst.invariant h.0 h.1 (omega (arith, low, c.loop-inst-test.false)) h.2 h.3),
)
