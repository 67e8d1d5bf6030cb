-- What one instruction breaks.
use Rattle.std.proofs.Common.{◌≡◌, ◌⊎◌, ℕ, ◌+◌, ◌<◌, List, length, true, Option, Some, None, slice_get, inl, inr, refl, sym, ap, subst, ◌∙◌, arith}
use Rattle.std.specs.Option.{is_some}
use Rattle.std.proofs.lemmas.Bool.{cases_eq}
use Rattle.std.proofs.lemmas.Option.{none-some, same_Some, slice_get_within}
use Rattle.ir_core.specs.declared.types.Ty.{Ty}
use Rattle.ir_core.specs.declared.instructions.Value.{Value}
use Rattle.ir_core.specs.declared.instructions.Typed.{Typed}
use Rattle.ir_core.specs.declared.instructions.Order.{Order}
use Rattle.ir_core.specs.declared.instructions.TailWord.{TailWord}
use Rattle.ir_core.specs.declared.instructions.Kind.TheVariants.{Store, Call}
use Rattle.ir_core.specs.declared.instructions.Inst.{Inst}
use Rattle.ir_core.specs.declared.module.Block.{Block}
use Rattle.ir_core.specs.declared.module.Module.{Module}
use Rattle.ir_core.specs.declared.module.Function.{Function}
use Rattle.ir_core.specs.FirstForm.{is_ptr}
use Rattle.ir_core.specs.Places.{Place, block_in, inst_in, inst_at}
use Rattle.effect_facts.specs.Marks.{accessed, called_place}
use Rattle.effect_facts.proofs.EffectLaws.{accesses_is, is_accessed}
use Rattle.effect_facts.proofs.CallLaws.{stands_at, called_by, place_called}
use Rattle.register_hops.specs.Hops.{defined_place}
use Rattle.spmd_rules.specs.Rules.{StoresStack, AccessesStack, PassesStack, ReturnsStack, CallsWithStack}
use Rattle.value_facts.specs.Effects.{NeedsGuard}
use Rattle.value_facts.specs.Pointers.{spot, CallsFunction, MayBeStack}
use Rattle.spmd_judge.specs.declared.insts.InstRule.{InstRule}
use Rattle.spmd_judge.specs.Lines.{IsLeastLine}
use Rattle.spmd_judge.specs.Judging.{BreaksInst, BreaksAt}

module _ (m : Module) (p : Place) (i : Inst) where
  -- ---- stores

  module _ (v at : Typed) (order : Option Order) (align : ℕ) (is : i.kind ≡ Store v at order align) where
    same_value : (h : StoresStack m p i) → h.0 ≡ v
    same_value h = let e : Store h.0 h.1 h.2 h.3 ≡ Store v at order align = sym h.4 ∙ is in cc

    pub stores : is_ptr v.ty ≡ true → MayBeStack m (spot p.function v.value) → StoresStack m p i
    stores ptr may = (v, at, order, align, is, ptr, may)

    pub stores_pointer : StoresStack m p i → is_ptr v.ty ≡ true
    stores_pointer h = ap (λ (t : Typed). is_ptr t.ty) (sym (same_value h)) ∙ h.5

    pub stores_stack : StoresStack m p i → MayBeStack m (spot p.function v.value)
    stores_stack h = subst (λ (t : Typed). MayBeStack m (spot p.function t.value)) (same_value h) h.6

  -- ---- accesses

  module _ (at : Typed) (is : accessed i.kind ≡ Some at) where
    pub accesses : NeedsGuard m p → MayBeStack m (spot p.function at.value) → AccessesStack m p i
    accesses guard may = (at, guard, is_accessed i.kind at is, may)

    pub accesses_stack : AccessesStack m p i → MayBeStack m (spot p.function at.value)
    accesses_stack h = let same : h.0 ≡ at = same_Some h.0 at (sym (accesses_is i.kind h.0 h.2) ∙ is) in subst (λ (t : Typed). MayBeStack m (spot p.function t.value)) same h.3

  pub no_access : accessed i.kind ≡ None → AccessesStack m p i → ⊥
  no_access none h = none-some h.0 (sym none ∙ accesses_is i.kind h.0 h.2)

  -- ---- calls

  module _ (tail_word : TailWord) (ret : Ty) (callee : Value) (operands : List Typed) (is : i.kind ≡ Call tail_word ret callee operands) where
    same_operands : (to : ℕ) (others : List Typed) → CallsFunction m p.function to i others → others ≡ operands
    same_operands to others c = let is_call = c.is in cc

    pub calls : inst_at m p ≡ Some i → (to : ℕ) → defined_place m callee ≡ Some to → NeedsGuard m p → PassesStack m p.function operands ⊎ ReturnsStack m p.function i.result → CallsWithStack m p i
    calls there to e guard passes =
        let c = called_by m p.function to i (stands_at m p i there) i.kind refl (ap (called_place m) is ∙ e) in
        (to, operands, guard, subst (λ (others : List Typed). CallsFunction m p.function to i others) (same_operands to c.0 c.1) c.1, passes)

    pub calls_defined : (h : CallsWithStack m p i) → defined_place m callee ≡ Some h.0
    calls_defined h = sym (ap (called_place m) is) ∙ place_called m p.function h.0 i h.1 h.3

    pub calls_passing : CallsWithStack m p i → PassesStack m p.function operands ⊎ ReturnsStack m p.function i.result
    calls_passing h = subst (λ (others : List Typed). PassesStack m p.function others ⊎ ReturnsStack m p.function i.result) (same_operands h.0 h.1 h.3) h.4

-- ---- the line

module _ (m : Module) (rule : InstRule) (p : Place) where
  pub line_broken : (i : Inst) → inst_at m p ≡ Some i → BreaksInst rule m p i → IsLeastLine (BreaksAt m rule p) (Some i.line)
  line_broken i there broken = ((i, there, broken, refl), λ other h. let e : i.line ≡ other = ap (λ (j : Inst). j.line) (same_Some i h.0 (sym there ∙ h.1)) ∙ h.3 in omega (arith, e))

  pub line_kept : (i : Inst) → inst_at m p ≡ Some i → (BreaksInst rule m p i → ⊥) → IsLeastLine (BreaksAt m rule p) None
  line_kept i there kept = λ other h. kept (subst (λ (j : Inst). BreaksInst rule m p j) (same_Some h.0 i (sym h.1 ∙ there)) h.2)

  pub line_missing : inst_at m p ≡ None → IsLeastLine (BreaksAt m rule p) None
  line_missing none = λ other h. none-some h.0 (sym none ∙ h.1)

-- ---- places

pub block_low : (m : Module) (p : Place) (f : Function) (i : Inst) → slice_get m.functions p.function ≡ Some f → inst_at m p ≡ Some i → p.block < length f.blocks
block_low m p f i there e = by_block (slice_get f.blocks p.block) refl (ap (λ o. inst_in (block_in o p.block) p.index) (sym there) ∙ e) where
  by_block : (o : Option Block) → slice_get f.blocks p.block ≡ o → inst_in o p.index ≡ Some i → p.block < length f.blocks
  by_block None is d = absurd (none-some i d)
  by_block (Some b) is d = slice_get_within f.blocks p.block b is

pub no_block : (m : Module) (p : Place) (i : Inst) → slice_get m.functions p.function ≡ None → inst_at m p ≡ Some i → ⊥
no_block m p i none e = none-some i (ap (λ o. inst_in (block_in o p.block) p.index) (sym none) ∙ e)

pub inst_low : (m : Module) (p : Place) (b : Block) (i : Inst) → block_in (slice_get m.functions p.function) p.block ≡ Some b → inst_at m p ≡ Some i → p.index < length b.insts
inst_low m p b i there e = slice_get_within b.insts p.index i (ap (λ o. inst_in o p.index) (sym there) ∙ e)

pub no_inst : (m : Module) (p : Place) (i : Inst) → block_in (slice_get m.functions p.function) p.block ≡ None → inst_at m p ≡ Some i → ⊥
no_inst m p i none e = none-some i (ap (λ o. inst_in o p.index) (sym none) ∙ e)

-- ---- arguments seen one by one

pub none_passed : (m : Module) (at : ℕ) (operands : List Typed) (n : ℕ) (v : Typed) → slice_get operands n ≡ Some v → (MayBeStack m (spot at v.value) → ⊥)
    → ((w : Typed) (k : ℕ) → k < n → slice_get operands k ≡ Some w → MayBeStack m (spot at w.value) → ⊥)
    → (w : Typed) (k : ℕ) → k < n + 1 → slice_get operands k ≡ Some w → MayBeStack m (spot at w.value) → ⊥
none_passed m at operands n v there not before w k low e may = either (cases_eq k n) where
  either : (k ≡ n) ⊎ (k ≡ n → ⊥) → ⊥
  either (inl same_place) = let same : w ≡ v = same_Some w v (sym (ap (slice_get operands) (sym same_place) ∙ e) ∙ there) in not (subst (λ (t : Typed). MayBeStack m (spot at t.value)) same may)
  either (inr other) = before w k (omega (arith, low, other)) e may

pub some_of : (o : Option ℕ) → is_some o ≡ true → (to : ℕ) × (o ≡ Some to)
some_of None e = let f : ⊥ = cc in absurd f
some_of (Some to) e = (to, refl)
