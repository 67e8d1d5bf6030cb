use Rattle.std.proofs.Common.{List, ℕ, sym, subst, ◌∙◌}
use Rattle.ir_core.specs.declared.module.Module.{Module}
use Rattle.checked_modules.specs.Checked.{HasNoRefusal}
use Rattle.register_hops.specs.Numbered.{AreReachedRegisters}
use Rattle.plain_facts.specs.declared.uses.Use.{Use}
use Rattle.plain_facts.specs.declared.own.Own.{Own}
use Rattle.plain_facts.specs.Uses.{all_uses, AreWithin, AreOwn}
use Rattle.plain_facts.specs.Backs.{all_backs, all_roots}
use Rattle.plain_facts.proofs.UseLaws.{all_within}
use Rattle.plain_facts.proofs.plain.PlainUses.of.Goals as goal

pub own_row-requires : goal.own_row-requires
own_row-requires c =
    let m = c.in_ok-numbering.numbering in
    let P : List Use → Type 0 = λ uses. AreWithin c.count.result uses in
    let Q : ℕ → Type 0 = λ count. AreWithin count (all_uses m) in
    subst P (sym (c.as_slice.ensures ∙ c.in_ok-uses.ensures)) (subst Q (sym c.count.ensures) (all_within m))

pub invariant_of-result : goal.invariant_of-result
invariant_of-result c =
    let m = c.in_ok-numbering.numbering in
    let own = c.in_ok-own.own in
    let beyond = c.in_ok-beyond.beyond in
    let P : Module → Type 0 = λ k. HasNoRefusal k in
    let Q : List Use → Type 0 = λ uses. AreOwn c.count.result uses own in
    let R : ℕ → Type 0 = λ count. AreOwn count (all_uses m) own in
    let S : List Own → Type 0 = λ row. AreReachedRegisters m (all_backs m) (all_roots row (all_backs m)) beyond in
    record {
      rules = subst P (sym (c.in_ok-numbering.ensures ∙ c.indexed.ensures.same)) c.indexed.ensures.rules;
      own_row = subst R c.count.ensures (subst Q (c.as_slice.ensures ∙ c.in_ok-uses.ensures) c.in_ok-own.ensures);
      beyond_row = subst S c.as_slice-2.ensures c.in_ok-beyond.ensures;
    }
