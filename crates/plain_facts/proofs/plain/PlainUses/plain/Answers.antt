use Rattle.std.proofs.Common.{◌≡◌, ◌↔◌, List, Bool, Some, true, ap, sym, subst, ◌∙◌}
use Rattle.ir_core.specs.declared.module.Module.{Module}
use Rattle.ir_core.specs.Places.{Place, inst_at}
use Rattle.value_facts.specs.Plain.{Plain}
use Rattle.plain_facts.specs.declared.own.Own.{Own}
use Rattle.plain_facts.specs.Reads.{is_plain_inst}
use Rattle.plain_facts.proofs.PlainLaws.{plain_is}
use Rattle.plain_facts.proofs.plain.PlainUses.plain.Goals as goal

pub returns-in-Some : goal.returns-in-Some
returns-in-Some c =
    let kept = c.self.inside in
    let m = kept.numbering in
    let own = kept.own in
    let beyond = kept.beyond in
    let i = c.in-Some.inst.now in
    let p : Place = record { function = c.args.function; block = c.args.block; index = c.args.index } in
    let is : inst_at m p ≡ Some i = ap (λ (k : Module). inst_at k p) (sym (c.module.ensures ∙ c.indexed.ensures)) ∙ sym c.in-Some.ensures in
    let result : c.is_plain_inst.result ≡ is_plain_inst m own beyond p.function i =
    c.is_plain_inst.ensures ∙ ap (λ (o : List Own). is_plain_inst m o c.as_slice-in-Some.result.now p.function i) c.as_slice.ensures ∙ ap (λ (b : List Bool). is_plain_inst m own b p.function i) c.as_slice-in-Some.ensures in
    let law = plain_is m own beyond c.self.invariant p i is in
    let P : Module → Type 0 = λ k. (c.is_plain_inst.result ≡ true) ↔ Plain k p in
    subst P c.self.view_is (λ e. law.0 (sym result ∙ e), λ h. result ∙ law.1 h)
