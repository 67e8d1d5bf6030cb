-- Which instruction makes a use, and what it says of a release.
use Rattle.std.proofs.Common.{◌≡◌, ◌==◌, ◌+◌, ℕ, List, ◌++◌, Bool, true, false, Option, Some, None, inl, inr, refl, sym, ap, subst, ◌∙◌, slice_get, if◌then◌else◌, arith}
use Rattle.std.specs.List.{flat_map}
use Rattle.std.proofs.lemmas.Option.{none-some, same_Some}
use Rattle.ir_core.specs.declared.instructions.Value.{Value}
use Rattle.ir_core.specs.declared.instructions.Value.TheVariants.{Int as IntValue, Null, Local as LocalValue, Global as GlobalValue}
use Rattle.ir_core.specs.declared.instructions.Typed.{Typed}
use Rattle.ir_core.specs.declared.instructions.Kind.{Kind}
use Rattle.ir_core.specs.declared.instructions.Kind.TheVariants.{Bin, ICmp, Cast, Select, Phi, Store, Rmw, Gep, Call, CondBr, Switch, Ret}
use Rattle.ir_core.specs.declared.instructions.Inst.{Inst}
use Rattle.ir_core.specs.declared.module.Module.{Module}
use Rattle.ir_core.specs.declared.module.Function.{Function}
use Rattle.ir_core.specs.declared.rtl.Rtl.TheVariants.{FreeShared}
use Rattle.ir_core.specs.Places.{Name}
use Rattle.shapes.specs.Facts.{insts_of, is_call_of, operand_of}
use Rattle.call_graph.proofs.ListLaws.{none_among, in_front, behind, in_either, last_is, within_joined, joined_has}
use Rattle.register_numbers.specs.Numbers.{number_of, register_count}
use Rattle.register_numbers.proofs.Apart.{number_within, one_register}
use Rattle.register_hops.specs.Numbered.{Stands}
use Rattle.register_hops.proofs.PlacedLaws.{given_at, is_given_at}
use Rattle.value_facts.specs.Pointers.{StandsIn}
use Rattle.value_facts.specs.Plain.{Among, UsesOtherwise, Releases}
use Rattle.plain_facts.specs.declared.uses.Use.{Use}
use Rattle.plain_facts.specs.declared.uses.Release.{Release}
use Rattle.plain_facts.specs.Uses.{value_number, release_by, release_of_operands, release_of, size_released, use_by, use_of, edge_uses, operand_uses, kind_uses, inst_uses, function_uses, all_uses, AreWithin}
use Rattle.plain_facts.proofs.OwnLaws.{is_itself, same_number}

-- ---- a use of one value

use_is : (r : Option Release) (o : Option ℕ) (u : Use) → Stands (use_by r o) u → (o ≡ Some u.register) × (u.released ≡ size_released r u.register)
use_is r None u s = absurd (none_among u s)
use_is r (Some n) u s =
    let same = last_is (record { register = n; released = size_released r n }) u s in
    (ap (λ (w : Use). Some w.register) (sym same), ap (λ (w : Use). w.released) same ∙ ap (λ (w : Use). size_released r w.register) (sym same))

use_there : (r : Option Release) (o : Option ℕ) (n : ℕ) → o ≡ Some n → Stands (use_by r o) (record { register = n; released = size_released r n })
use_there r o n e = let P : Option ℕ → Type 0 = λ k. Stands (use_by r k) (record { register = n; released = size_released r n }) in subst P (sym e) (0, refl)

module _ (m : Module) where
  pub value_is : (at : ℕ) (v : Value) (n : ℕ) → value_number m at v ≡ Some n → (x : Name) × (v ≡ LocalValue x) × (number_of m at x ≡ Some n)
  value_is at (LocalValue x) n e = (x, refl, e)
  value_is at (IntValue k) n e = absurd (none-some n e)
  value_is at Null n e = absurd (none-some n e)
  value_is at (GlobalValue x) n e = absurd (none-some n e)

  -- ---- uses by kinds

  module _ (at : ℕ) (r : Option Release) where
    abbrev From : Kind → Use → Type 0
    From kind u = (v : Value) × UsesOtherwise kind v × Stands (use_of m at r v) u

    moved : (v w : Value) (u : Use) → w ≡ v → Stands (use_of m at r v) u → Stands (use_of m at r w) u
    moved v w u e s = let P : Value → Type 0 = λ z. Stands (use_of m at r z) u in subst P (sym e) s

    made_by : (kind : Kind) (u : Use) → Stands (kind_uses m at r kind) u → From kind u
    made_by (Bin op flags ty a b) u s = elim (in_either (use_of m at r a) (use_of m at r b) u s) [ inl p ↦ (a, inl refl, p) | inr q ↦ (b, inr refl, q) ]
    made_by (ICmp pred ty a b) u s = elim (in_either (use_of m at r a) (use_of m at r b) u s) [ inl p ↦ (a, inl refl, p) | inr q ↦ (b, inr refl, q) ]
    made_by (Cast op from to) u s = (from.value, refl, s)
    made_by (Select c a b) u s = elim (in_either (use_of m at r c.value) (use_of m at r a.value ++ use_of m at r b.value) u s) [
      | inl p ↦ (c.value, inl refl, p)
      | inr q ↦ elim (in_either (use_of m at r a.value) (use_of m at r b.value) u q) [ inl p ↦ (a.value, inr (inl refl), p) | inr z ↦ (b.value, inr (inr refl), z) ]
    ]
    made_by (Phi ty edges) u s = let w = within_joined (edge_uses m at r) edges u s in (w.0.value, (w.1.0, w.0, w.1.1, refl), w.2)
    made_by (Store value to order align) u s = (value.value, refl, s)
    made_by (Rmw op to value order align) u s = (value.value, refl, s)
    made_by (Gep inbounds ty base path) u s = let w = within_joined (operand_uses m at r) path u s in (w.0.value, (w.1.0, w.0, w.1.1, refl), w.2)
    made_by (Call tail_word ret callee operands) u s = elim (in_either (use_of m at r callee) (flat_map (operand_uses m at r) operands) u s) [
      | inl p ↦ (callee, inl refl, p)
      | inr q ↦ let w = within_joined (operand_uses m at r) operands u q in (w.0.value, inr (w.1.0, w.0, w.1.1, refl), w.2)
    ]
    made_by (CondBr c then_to else_to) u s = (c.value, refl, s)
    made_by (Switch on other cases) u s = (on.value, refl, s)
    made_by (Ret (Some value)) u s = (value.value, refl, s)
    made_by (Ret None) u s = absurd (none_among u s)
    made_by _ u s = absurd (none_among u s)

    operand_made : (operands : List Typed) (v : Value) (u : Use) → Among operands v → Stands (use_of m at r v) u → Stands (flat_map (operand_uses m at r) operands) u
    operand_made operands v u h s = joined_has (operand_uses m at r) operands h.1 u (h.0, h.2) (moved v h.1.value u h.3 s)

    makes : (kind : Kind) (v : Value) (u : Use) → UsesOtherwise kind v → Stands (use_of m at r v) u → Stands (kind_uses m at r kind) u
    makes (Bin op flags ty a b) v u (inl e) s = in_front (use_of m at r a) (use_of m at r b) u (moved v a u e s)
    makes (Bin op flags ty a b) v u (inr e) s = behind (use_of m at r a) (use_of m at r b) u (moved v b u e s)
    makes (ICmp pred ty a b) v u (inl e) s = in_front (use_of m at r a) (use_of m at r b) u (moved v a u e s)
    makes (ICmp pred ty a b) v u (inr e) s = behind (use_of m at r a) (use_of m at r b) u (moved v b u e s)
    makes (Cast op from to) v u e s = moved v from.value u e s
    makes (Select c a b) v u (inl e) s = in_front (use_of m at r c.value) (use_of m at r a.value ++ use_of m at r b.value) u (moved v c.value u e s)
    makes (Select c a b) v u (inr (inl e)) s =
        behind (use_of m at r c.value) (use_of m at r a.value ++ use_of m at r b.value) u (in_front (use_of m at r a.value) (use_of m at r b.value) u (moved v a.value u e s))
    makes (Select c a b) v u (inr (inr e)) s =
        behind (use_of m at r c.value) (use_of m at r a.value ++ use_of m at r b.value) u (behind (use_of m at r a.value) (use_of m at r b.value) u (moved v b.value u e s))
    makes (Phi ty edges) v u h s = joined_has (edge_uses m at r) edges h.1 u (h.0, h.2) (moved v h.1.value u h.3 s)
    makes (Store value to order align) v u e s = moved v value.value u e s
    makes (Rmw op to value order align) v u e s = moved v value.value u e s
    makes (Gep inbounds ty base path) v u h s = operand_made path v u h s
    makes (Call tail_word ret callee operands) v u (inl e) s = in_front (use_of m at r callee) (flat_map (operand_uses m at r) operands) u (moved v callee u e s)
    makes (Call tail_word ret callee operands) v u (inr h) s = behind (use_of m at r callee) (flat_map (operand_uses m at r) operands) u (operand_made operands v u h s)
    makes (CondBr c then_to else_to) v u e s = moved v c.value u e s
    makes (Switch on other cases) v u e s = moved v on.value u e s
    makes (Ret (Some value)) v u e s = moved v value.value u e s
    makes (Ret None) v u e s = absurd e
    makes _ v u e s = absurd e

  -- ---- the uses of a module

  -- an instruction uses the register otherwise, and the size is the one that it releases of it
  pub record IsUse (u : Use) : Type 0 where
    pub at : ℕ
    pub inst : Inst
    pub stands : StandsIn m at inst
    pub name : Name
    pub number : number_of m at name ≡ Some u.register
    pub uses : UsesOtherwise inst.kind (LocalValue name)
    pub size : u.released ≡ size_released (release_of m at inst) u.register

  use_made : (at : ℕ) (f : Function) (i : Inst) (place : ℕ) (u : Use) → slice_get m.functions at ≡ Some f → slice_get (insts_of f) place ≡ Some i → Stands (inst_uses m at i) u → IsUse u
  use_made at f i place u there is s =
      let made = made_by at (release_of m at i) i.kind u s in
      let one = use_is (release_of m at i) (value_number m at made.0) u made.2 in
      let x = value_is at made.0 u.register one.0 in
      record { at = at; inst = i; stands = (f, place, there, is); name = x.0; number = x.2; uses = subst (UsesOtherwise i.kind) x.1 made.1; size = one.1 }

  pub is_use : (u : Use) → Stands (all_uses m) u → IsUse u
  is_use u s =
      let g = given_at (function_uses m) m.functions 0 u s in
      let same : 0 + g.place ≡ g.place = omega arith in
      let P : ℕ → Type 0 = λ at. Stands (function_uses m at g.item) u in
      let w = within_joined (inst_uses m g.place) (insts_of g.item) u (subst P same g.given) in
      use_made g.place g.item w.0 w.1.0 u g.there w.1.1 w.2

  pub use_stands : (at : ℕ) (i : Inst) (x : Name) (n : ℕ) → StandsIn m at i → UsesOtherwise i.kind (LocalValue x) → number_of m at x ≡ Some n
      → Stands (all_uses m) (record { register = n; released = size_released (release_of m at i) n })
  use_stands at i x n stands uses number =
      let r = release_of m at i in
      let u : Use = record { register = n; released = size_released r n } in
      let here = makes at r i.kind (LocalValue x) u uses (use_there r (number_of m at x) n number) in
      let f = stands.0 in
      let same : at ≡ 0 + at = omega arith in
      let P : ℕ → Type 0 = λ k. Stands (function_uses m k f) u in
      is_given_at (function_uses m) m.functions 0 at f u stands.2 (subst P same (joined_has (inst_uses m at) (insts_of f) i u (stands.1, stands.3) here))

  pub all_within : AreWithin (register_count m) (all_uses m)
  all_within u s = let r = is_use u s in number_within m r.at r.name u.register r.number

  -- ---- releases

  module _ (at : ℕ) (i : Inst) (x : Name) (n k : ℕ) (number : number_of m at x ≡ Some n) where
    by_size : (pointer size : Typed) → is_call_of FreeShared i ≡ true → operand_of i 0 ≡ Some pointer → operand_of i 1 ≡ Some size → (o : Option ℕ) → value_number m at pointer.value ≡ o → (v : Value) → size.value ≡ v
        → size_released (release_by o v) n ≡ Some k → Releases k x i
    by_size pointer size call first second None p v q e = absurd (none-some k e)
    by_size pointer size call first second (Some a) p (IntValue b) q e = by_test (a == n) refl e where
      by_test : (t : Bool) → (a == n) ≡ t → (if t then Some b else None) ≡ Some k → Releases k x i
      by_test true h f =
          let y = value_is at pointer.value a p in
          let same = one_register m at at y.0 x n (y.2 ∙ ap Some (same_number a n h)) number in
          (pointer, size, call, first, second, y.1 ∙ ap LocalValue same.1, q ∙ ap IntValue (same_Some b k f))
      by_test false h f = absurd (none-some k f)
    by_size pointer size call first second (Some a) p Null q e = absurd (none-some k e)
    by_size pointer size call first second (Some a) p (LocalValue y) q e = absurd (none-some k e)
    by_size pointer size call first second (Some a) p (GlobalValue y) q e = absurd (none-some k e)

    by_operands : (a b : Option Typed) → is_call_of FreeShared i ≡ true → operand_of i 0 ≡ a → operand_of i 1 ≡ b → size_released (release_of_operands m at a b) n ≡ Some k → Releases k x i
    by_operands None b call first second e = absurd (none-some k e)
    by_operands (Some pointer) None call first second e = absurd (none-some k e)
    by_operands (Some pointer) (Some size) call first second e = by_size pointer size call first second (value_number m at pointer.value) refl size.value refl e

    by_call : (t : Bool) → is_call_of FreeShared i ≡ t → size_released (if t then release_of_operands m at (operand_of i 0) (operand_of i 1) else None) n ≡ Some k → Releases k x i
    by_call true call e = by_operands (operand_of i 0) (operand_of i 1) call refl refl e
    by_call false call e = absurd (none-some k e)

    pub releases : size_released (release_of m at i) n ≡ Some k → Releases k x i
    releases e = by_call (is_call_of FreeShared i) refl e

    pub size_of_release : Releases k x i → size_released (release_of m at i) n ≡ Some k
    size_of_release h =
        ap (λ (r : Option Release). size_released r n) (
        ap (λ t. if t then release_of_operands m at (operand_of i 0) (operand_of i 1) else None) h.2
        ∙ ap (λ o. release_of_operands m at o (operand_of i 1)) h.3
        ∙ ap (λ o. release_of_operands m at (Some h.0) o) h.4
        ∙ ap (λ v. release_by (value_number m at v) h.1.value) h.5
        ∙ ap (λ v. release_by (number_of m at x) v) h.6
        ∙ ap (λ o. release_by o (IntValue k)) number
        )
        ∙ ap (λ t. if t then Some k else None) (is_itself n n refl)
