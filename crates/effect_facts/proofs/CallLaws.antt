-- Calls of functions with marks, and instructions that need a guard.
use Rattle.std.proofs.Common.{◌≡◌, ◌↔◌, ◌⊎◌, ℕ, List, Bool, true, Option, Some, None, inl, inr, refl, sym, ap, subst, ◌∙◌, slice_get}
use Rattle.std.proofs.lemmas.Option.{none-some, same_Some}
use Rattle.ir_core.specs.declared.instructions.Typed.{Typed}
use Rattle.ir_core.specs.declared.instructions.Kind.{Kind}
use Rattle.ir_core.specs.declared.instructions.Kind.TheVariants.{Call}
use Rattle.ir_core.specs.declared.instructions.Inst.{Inst}
use Rattle.ir_core.specs.declared.module.Block.{Block}
use Rattle.ir_core.specs.declared.module.Module.{Module}
use Rattle.ir_core.specs.declared.module.Function.{Function}
use Rattle.ir_core.specs.Places.{Place, block_in, inst_in, inst_at}
use Rattle.shapes.specs.Insts.{block_insts}
use Rattle.call_graph.proofs.ListLaws.{joined_has}
use Rattle.call_paths.specs.Known.{IsRowOf}
use Rattle.pointer_facts.proofs.KnownLaws.{calls_function}
use Rattle.pointer_facts.proofs.WholeLaws.{defined_there}
use Rattle.value_facts.specs.Effects.{HasEffect, CallsWithEffect, NeedsGuard}
use Rattle.value_facts.specs.Pointers.{StandsIn, CallsFunction}
use Rattle.effect_facts.specs.Marks.{called_place, HasEffectAlone, CallsMarked, AreMarks}

-- ---- the function that is called

module _ (m : Module) (at to : ℕ) (i : Inst) where
  pub called_by : StandsIn m at i → (kind : Kind) → i.kind ≡ kind → called_place m kind ≡ Some to → (operands : List Typed) × CallsFunction m at to i operands
  called_by stands (Call tail_word ret callee operands) is e = (operands, calls_function m at to i stands tail_word ret operands callee is e)
  called_by stands _ is e = absurd (none-some to e)

  pub place_called : (operands : List Typed) → CallsFunction m at to i operands → called_place m i.kind ≡ Some to
  place_called operands c = ap (called_place m) c.is ∙ defined_there m at to i operands c

calls_marked_is : (m : Module) (at : ℕ) (i : Inst) (alone : List Bool) → StandsIn m at i → IsRowOf (HasEffectAlone m) alone → CallsMarked m alone i ↔ CallsWithEffect m at i
calls_marked_is m at i alone stands row = (
  λ h. let c = called_by m at h.0 i stands i.kind refl h.1 in let e = (row h.0).0 h.2 in (h.0, c.0, c.1, e.0, e.1),
  λ h. (h.0, place_called m at h.0 i h.1 h.2, (row h.0).1 (h.3, h.4)),
)

-- ---- the instruction at a place

module _ (m : Module) (p : Place) (i : Inst) where
  in_block : (f : Function) (o : Option Block) → slice_get m.functions p.function ≡ Some f → slice_get f.blocks p.block ≡ o → inst_in o p.index ≡ Some i → StandsIn m p.function i
  in_block f None there at e = absurd (none-some i e)
  in_block f (Some b) there at e = let a = joined_has block_insts f.blocks b i (p.block, at) (p.index, e) in (f, a.0, there, a.1)

  in_function : (o : Option Function) → slice_get m.functions p.function ≡ o → inst_in (block_in o p.block) p.index ≡ Some i → StandsIn m p.function i
  in_function None there e = absurd (none-some i e)
  in_function (Some f) there e = in_block f (slice_get f.blocks p.block) there refl e

  pub stands_at : inst_at m p ≡ Some i → StandsIn m p.function i
  stands_at e = in_function (slice_get m.functions p.function) refl e

  module _ (effects alone guarded : List Bool) (are : AreMarks m effects alone guarded) (is : inst_at m p ≡ Some i) where
    pub guard_needed : slice_get guarded p.function ≡ Some true → HasEffect m p.function i ⊎ CallsMarked m alone i → NeedsGuard m p
    guard_needed marked (inl e) = (i, is, (are.guarded_row p.function).0 marked, inl e)
    guard_needed marked (inr c) = (i, is, (are.guarded_row p.function).0 marked, inr ((calls_marked_is m p.function i alone (stands_at is) are.alone_row).0 c))

    pub is_guarded : NeedsGuard m p → slice_get guarded p.function ≡ Some true
    is_guarded h = (are.guarded_row p.function).1 h.2

    same_inst : (j : Inst) → inst_at m p ≡ Some j → j ≡ i
    same_inst j e = same_Some j i (sym e ∙ is)

    pub acts_there : NeedsGuard m p → HasEffect m p.function i ⊎ CallsMarked m alone i
    acts_there h =
        let same = same_inst h.0 h.1 in
        let P : Inst → Type 0 = λ j. HasEffect m p.function j ⊎ CallsWithEffect m p.function j in
        elim (subst P same h.3) [ inl e ↦ inl e | inr c ↦ inr ((calls_marked_is m p.function i alone (stands_at is) are.alone_row).1 c) ]

-- nothing stands there
pub no_guard : (m : Module) (p : Place) → inst_at m p ≡ None → NeedsGuard m p → ⊥
no_guard m p none h = none-some h.0 (sym none ∙ h.1)
