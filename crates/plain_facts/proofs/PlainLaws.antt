-- What the rows tell of an allocation is whether it is used plainly.
use Rattle.std.proofs.Common.{◌≡◌, ◌⊎◌, ◌↔◌, ◌<◌, ℕ, List, [], ◌∷◌, Bool, true, false, not, Option, Some, None, inl, inr, refl, sym, ap, subst, ◌∙◌, slice_get}
use Rattle.std.proofs.lemmas.Bool.{and_parts}
use Rattle.std.proofs.lemmas.Option.{none-some, same_Some}
use Rattle.ir_core.specs.declared.instructions.Value.{Value}
use Rattle.ir_core.specs.declared.instructions.Value.TheVariants.{Int as IntValue, Local as LocalValue}
use Rattle.ir_core.specs.declared.instructions.Typed.{Typed}
use Rattle.ir_core.specs.declared.instructions.Kind.{Kind}
use Rattle.ir_core.specs.declared.instructions.Kind.TheVariants.{Gep}
use Rattle.ir_core.specs.declared.instructions.Inst.{Inst}
use Rattle.ir_core.specs.declared.module.Block.{Block}
use Rattle.ir_core.specs.declared.module.Module.{Module}
use Rattle.ir_core.specs.declared.module.Function.{Function}
use Rattle.ir_core.specs.declared.rtl.Rtl.TheVariants.{AllocShared}
use Rattle.ir_core.specs.Places.{Name, Place, block_in, inst_in, inst_at}
use Rattle.accepted_laws.proofs.Nothing.{not_both, both_hold}
use Rattle.shapes.specs.Facts.{calls, is_call_of, operand_of}
use Rattle.shapes.specs.Insts.{block_insts}
use Rattle.reach.specs.Chains.{Leads, Chain}
use Rattle.reach.proofs.ChainLaws.{leads_itself, leads_on}
use Rattle.call_graph.proofs.ListLaws.{joined_has}
use Rattle.register_numbers.specs.Numbers.{number_of, register_count}
use Rattle.register_numbers.proofs.Apart.{number_within, one_register}
use Rattle.value_facts.specs.Pointers.{StandsIn}
use Rattle.value_facts.specs.Plain.{UsesOtherwise, GoesOn, Releases, IsUsedPlainly, Plain}
use Rattle.plain_facts.specs.declared.own.Own.{Own}
use Rattle.plain_facts.specs.declared.own.Own.TheVariants.{Unused}
use Rattle.plain_facts.specs.Uses.{all_uses, release_of, size_released}
use Rattle.plain_facts.specs.Reads.{AreRows, is_allowed, is_true, is_plain_number, is_plain_result, is_plain_inst}
use Rattle.plain_facts.proofs.OwnLaws.{AllReleased, allowed_is, allowed_of}
use Rattle.plain_facts.proofs.UseLaws.{is_use, use_stands, releases, size_of_release}
use Rattle.plain_facts.proofs.BackLaws.{Beyond, beyond_is, beyond_reached, result_has}
use Rattle.plain_facts.proofs.OnceLaws.{one_result}

-- ---- the instruction at a place

module _ (m : Module) (p : Place) (i : Inst) where
  in_block : (f : Function) (o : Option Block) → slice_get m.functions p.function ≡ Some f → slice_get f.blocks p.block ≡ o → inst_in o p.index ≡ Some i → StandsIn m p.function i
  in_block f None there at e = absurd (none-some i e)
  in_block f (Some b) there at e = let a = joined_has block_insts f.blocks b i (p.block, at) (p.index, e) in (f, a.0, there, a.1)

  in_function : (o : Option Function) → slice_get m.functions p.function ≡ o → inst_in (block_in o p.block) p.index ≡ Some i → StandsIn m p.function i
  in_function None there e = absurd (none-some i e)
  in_function (Some f) there e = in_block f (slice_get f.blocks p.block) there refl e

  stands_at : inst_at m p ≡ Some i → StandsIn m p.function i
  stands_at e = in_function (slice_get m.functions p.function) refl e

-- ---- chains by their last hop

abbrev LeadsOn : {A : Type 0} → (A → A → Type 0) → A → A → Type 0
LeadsOn {A} Hop x y = (w : A) × Leads Hop x w × Hop w y

last_hop : {A : Type 0} (Hop : A → A → Type 0) (x y : A) (through : List A) → Chain Hop x through y → (x ≡ y) ⊎ LeadsOn Hop x y
last_hop Hop x y [] c = inl c
last_hop {A} Hop x y (z ∷ zs) c = elim (last_hop Hop z y zs c.1) [
  | inl e ↦ inr (x, leads_itself Hop x, subst (λ (w : A). Hop x w) e c.0)
  | inr r ↦ inr (r.0, (z ∷ r.1.0, (c.0, r.1.1)), r.2)
]

-- a getelementptr is no call
no_call : (inbounds : _) (ty : _) (base : Typed) (path : List Typed) (k : Kind) → k ≡ Gep inbounds ty base path → calls AllocShared k ≡ true → ⊥
no_call inbounds ty base path k e h = not_both (calls AllocShared k) h (ap (calls AllocShared) e)

not_marked : (o : Option Bool) → (o ≡ Some true → ⊥) → not (is_true o) ≡ true
not_marked None h = refl
not_marked (Some false) h = refl
not_marked (Some true) h = absurd (h refl)

module _ (m : Module) (own : List Own) (beyond : List Bool) (are : AreRows m own beyond) (at : ℕ) (i : Inst) (stands : StandsIn m at i) (call : is_call_of AllocShared i ≡ true)
    (x : Name) (given : i.result ≡ Some x) (size : Value) (n : ℕ) (number : number_of m at x ≡ Some n) where
  low : n < register_count m
  low = number_within m at x n number

  -- ---- from the rows

  module _ (all : AllReleased n (all_uses m) size) (none : Beyond m n → ⊥) where
    itself : (j : Inst) → StandsIn m at j → UsesOtherwise j.kind (LocalValue x) → (k : ℕ) × (size ≡ IntValue k) × Releases k x j
    itself j there uses =
        let r = all _ (use_stands m at j x n there uses number) refl in
        (r.0, r.2, releases m at j x n r.0 number r.1)

    plainly : IsUsedPlainly m at x size
    plainly y j leads there uses = elim (last_hop (GoesOn m at) x y leads.0 leads.1) [
      | inl e ↦
          let P : Name → Type 0 = λ z. UsesOtherwise j.kind (LocalValue z) in
          let r = itself j there (subst P (sym e) uses) in
          (r.0, r.1, sym e, r.2)
      | inr r ↦ absurd (none (record { at = at; start = x; number = number; last = r.0; leads = r.1; end = y; goes = r.2; used = (j, there, uses) }))
    ]

  pub used_plainly : is_plain_number own beyond size (Some n) ≡ true → IsUsedPlainly m at x size
  used_plainly e =
      let parts = and_parts (is_allowed (slice_get own n) size) (not (is_true (slice_get beyond n))) e in
      let allowed = ap (λ o. is_allowed o size) (sym (are.own_row.1 n low)) ∙ parts.0 in
      let all = (allowed_is n size Unused (all_uses m) allowed).1 in
      plainly all (λ b. not_both (is_true (slice_get beyond n)) (ap is_true ((are.beyond_row n).1 (low, beyond_reached m own are.own_row n b))) (not_true (is_true (slice_get beyond n)) parts.1))
    where
      not_true : (b : Bool) → not b ≡ true → b ≡ false
      not_true true h = not_both false h refl
      not_true false h = refl

  -- ---- to the rows

  module _ (plain : IsUsedPlainly m at x size) where
    all_released : AllReleased n (all_uses m) size
    all_released u s same =
        let r = is_use m u s in
        let is = one_register m r.at at r.name x n (r.number ∙ ap Some same) number in
        let P : ℕ → Type 0 = λ k. StandsIn m k r.inst in
        let Q : Name → Type 0 = λ y. UsesOtherwise r.inst.kind (LocalValue y) in
        let h = plain x r.inst (leads_itself (GoesOn m at) x) (subst P is.0 r.stands) (subst Q is.1 r.uses) in
        let released = size_of_release m r.at r.inst x n h.0 (ap (λ k. number_of m k x) is.0 ∙ number) h.3 in
        (h.0, r.size ∙ ap (λ k. size_released (release_of m r.at r.inst) k) same ∙ released, h.1)

    none_beyond : Beyond m n → ⊥
    none_beyond b =
        let is = one_register m b.at at b.start x n b.number number in
        let P : ℕ → Type 0 = λ k. Leads (GoesOn m k) x b.last in
        let Q : ℕ → Type 0 = λ k. GoesOn m k b.last b.end in
        let R : ℕ → Type 0 = λ k. StandsIn m k b.used.0 in
        let S : Name → Type 0 = λ y. Leads (GoesOn m b.at) y b.last in
        let goes = subst Q is.0 b.goes in
        let leads = leads_on (GoesOn m at) x b.last b.end (subst P is.0 (subst S is.1 b.leads)) goes in
        let h = plain b.end b.used.0 leads (subst R is.0 b.used.1) b.used.2 in
        let gives = goes.4 in
        let same = one_result m are.rules.names at gives.0 i x gives.1 stands (gives.2 ∙ ap Some h.2) given in
        no_call goes.0 goes.1 goes.2 goes.3 gives.0.kind gives.3 (ap (is_call_of AllocShared) same ∙ call)

    pub number_is_plain : is_plain_number own beyond size (Some n) ≡ true
    number_is_plain =
        both_hold (is_allowed (slice_get own n) size) (not (is_true (slice_get beyond n)))
        (ap (λ o. is_allowed o size) (are.own_row.1 n low) ∙ allowed_of n size Unused (all_uses m) refl all_released)
        (not_marked (slice_get beyond n) (λ e. none_beyond (beyond_is m own are.own_row n ((are.beyond_row n).0 e).1)))

module _ (m : Module) (own : List Own) (beyond : List Bool) (are : AreRows m own beyond) (p : Place) (i : Inst) (is : inst_at m p ≡ Some i) where
  there : StandsIn m p.function i
  there = stands_at m p i is

  by_number : (x : Name) (size : Typed) → is_call_of AllocShared i ≡ true → i.result ≡ Some x → operand_of i 0 ≡ Some size → (o : Option ℕ) → number_of m p.function x ≡ o → is_plain_number own beyond size.value o ≡ true → Plain m p
  by_number x size call given operand None number e = not_both false e refl
  by_number x size call given operand (Some n) number e = (i, x, size, is, call, given, operand, used_plainly m own beyond are p.function i there call x given size.value n number e)

  by_result : (o : Option Name) (q : Option Typed) → is_call_of AllocShared i ≡ true → i.result ≡ o → operand_of i 0 ≡ q → is_plain_result m own beyond p.function o q ≡ true → Plain m p
  by_result None q call given operand e = not_both false e refl
  by_result (Some x) None call given operand e = not_both false e refl
  by_result (Some x) (Some size) call given operand e = by_number x size call given operand (number_of m p.function x) refl e

  is_plain : is_plain_inst m own beyond p.function i ≡ true → Plain m p
  is_plain e =
      let parts = and_parts (is_call_of AllocShared i) (is_plain_result m own beyond p.function i.result (operand_of i 0)) e in
      by_result i.result (operand_of i 0) parts.0 refl refl parts.1

  of_inst : (j : Inst) (x : Name) (size : Typed) → j ≡ i → is_call_of AllocShared j ≡ true → j.result ≡ Some x → operand_of j 0 ≡ Some size → IsUsedPlainly m p.function x size.value → is_plain_inst m own beyond p.function i ≡ true
  of_inst j x size same call given operand plain =
      let calls_ : is_call_of AllocShared i ≡ true = ap (is_call_of AllocShared) (sym same) ∙ call in
      let given_ : i.result ≡ Some x = ap (λ (k : Inst). k.result) (sym same) ∙ given in
      let operand_ : operand_of i 0 ≡ Some size = ap (λ (k : Inst). operand_of k 0) (sym same) ∙ operand in
      let n = result_has m p.function i x there given_ in
      both_hold (is_call_of AllocShared i) (is_plain_result m own beyond p.function i.result (operand_of i 0)) calls_
      (ap (λ o. is_plain_result m own beyond p.function o (operand_of i 0)) given_
      ∙ ap (λ o. is_plain_result m own beyond p.function (Some x) o) operand_
      ∙ ap (is_plain_number own beyond size.value) n.1
      ∙ number_is_plain m own beyond are p.function i there calls_ x given_ size.value n.0 n.1 plain)

  pub plain_is : (is_plain_inst m own beyond p.function i ≡ true) ↔ Plain m p
  plain_is = (is_plain, λ h. of_inst h.0 h.1 h.2 (same_Some h.0 i (sym h.3 ∙ is)) h.4 h.5 h.6 h.7)

-- nothing stands there
pub not_plain : (m : Module) (p : Place) → inst_at m p ≡ None → Plain m p → ⊥
not_plain m p none h = none-some h.0 (sym none ∙ h.3)
