-- What the marks of instructions and of functions say.
use Rattle.std.proofs.Common.{◌≡◌, ◌↔◌, ◌⊎◌, ℕ, ◌+◌, ◌<◌, List, [], ◌∷◌, length, Bool, true, Some, slice_get, inl, inr, sym, ap, subst, ◌∙◌, arith}
use Rattle.std.proofs.lemmas.Bool.{cases_eq}
use Rattle.std.proofs.lemmas.Option.{none-some, same_Some, slice_get_within}
use Rattle.ir_core.specs.declared.instructions.Typed.{Typed}
use Rattle.ir_core.specs.declared.instructions.Kind.{Kind}
use Rattle.ir_core.specs.declared.instructions.Kind.TheVariants.{Load, Store, Rmw}
use Rattle.ir_core.specs.declared.instructions.Inst.{Inst}
use Rattle.ir_core.specs.declared.module.Block.{Block}
use Rattle.ir_core.specs.declared.module.Function.{Function}
use Rattle.ir_core.specs.declared.module.Module.{Module}
use Rattle.reach.specs.Chains.{Chain}
use Rattle.shapes.specs.CallPaths.{Calls, IsKernelAt}
use Rattle.shapes.specs.Facts.{insts_of}
use Rattle.shapes.specs.Insts.{block_insts}
use Rattle.shapes.specs.KernelShape.{is_kernel}
use Rattle.call_graph.proofs.ListLaws.{joined_has}
use Rattle.call_paths.specs.Known.{IsRowOf}
use Rattle.call_paths.proofs.RegionLaws.{reaching_within}
use Rattle.value_facts.specs.Effects.{Accesses, AccessesOther, SharedEffect, IsGuarded}
use Rattle.value_facts.specs.Pointers.{spot, MayBeOther}
use Rattle.effect_facts.specs.Marks.{accessed, OneHasEffect, HasOwnEffect, ReachesMark, HasEffectAlone}

-- ---- accesses

pub accesses_is : (kind : Kind) (p : Typed) → Accesses kind p → accessed kind ≡ Some p
accesses_is (Store v a order align) p e = ap Some e
accesses_is (Load ty a (Some order) align) p e = ap Some e
accesses_is (Rmw op a v order align) p e = ap Some e
accesses_is _ p e = absurd e

pub is_accessed : (kind : Kind) (p : Typed) → accessed kind ≡ Some p → Accesses kind p
is_accessed (Store v a order align) p e = same_Some a p e
is_accessed (Load ty a (Some order) align) p e = same_Some a p e
is_accessed (Rmw op a v order align) p e = same_Some a p e
is_accessed _ p e = absurd (none-some p e)

pub accesses_mark : (m : Module) (at : ℕ) (i : Inst) (p : Typed) (mark : Bool) → accessed i.kind ≡ Some p → (mark ≡ true) ↔ MayBeOther m (spot at p.value) → (mark ≡ true) ↔ AccessesOther m at i
accesses_mark m at i p mark is may = (
  λ e. (p, is_accessed i.kind p is, may.0 e),
  λ h. may.1 (let same = same_Some h.0 p (sym (accesses_is i.kind h.0 h.1) ∙ is) in let P : Typed → Type 0 = λ q. MayBeOther m (spot at q.value) in subst P same h.2),
)

-- ---- functions

pub kernel_mark : (m : Module) (at : ℕ) (f : Function) (mark : Bool) → slice_get m.functions at ≡ Some f → mark ≡ is_kernel f → (mark ≡ true) ↔ IsKernelAt m at
kernel_mark m at f mark there is = (
  λ e. (f, there, sym is ∙ e),
  λ h. let there_too = h.1 in let same : h.0 ≡ f = cc in is ∙ ap is_kernel (sym same) ∙ h.2,
)

pub own_mark_is : (m : Module) (at : ℕ) (f : Function) (mark : Bool) → slice_get m.functions at ≡ Some f → (mark ≡ true) ↔ OneHasEffect m at (insts_of f) → (mark ≡ true) ↔ HasOwnEffect m at
own_mark_is m at f mark there is = (
  λ e. let h = is.0 e in (h.0, (f, h.1, there, h.2), h.3),
  λ h. is.1 (h.0, h.1.1, (let there_too = h.1.2 in let same : h.1.0 ≡ f = cc in ap (λ (g : Function). slice_get (insts_of g) h.1.1) (sym same) ∙ h.1.3), h.2),
)

pub effect_mark : (m : Module) (own : List Bool) (at : ℕ) (mark : Bool) → IsRowOf (HasOwnEffect m) own → (mark ≡ true) ↔ ReachesMark m own at → (mark ≡ true) ↔ SharedEffect m at
effect_mark m own at mark row is = (
  λ e. let h = is.0 e in let o = (row h.0).0 h.2 in (h.0, o.0, h.1, o.1, o.2),
  λ h. is.1 (h.0, h.2, (row h.0).1 (h.1, h.3, h.4)),
)

-- ---- functions of the module

pub own_within : (m : Module) (at : ℕ) → HasOwnEffect m at → at < length m.functions
own_within m at h = slice_get_within m.functions at h.1.0 h.1.2

pub effect_within : (m : Module) (at : ℕ) → SharedEffect m at → at < length m.functions
effect_within m at h = first at h.2.0 h.2.1 where
  first : (at : ℕ) (through : List ℕ) → Chain (Calls m) at through h.0 → at < length m.functions
  first at [] c = let P : ℕ → Type 0 = λ k. k < length m.functions in subst P (sym c) (slice_get_within m.functions h.0 h.3.0 h.3.2)
  first at (z ∷ zs) c = slice_get_within m.functions at c.0.0 c.0.3.0

pub alone_within : (m : Module) (at : ℕ) → HasEffectAlone m at → at < length m.functions
alone_within m at h = effect_within m at h.0

pub guarded_within : (m : Module) (at : ℕ) → IsGuarded m at → at < length m.functions
guarded_within m at (inl k) = slice_get_within m.functions at k.0 k.1
guarded_within m at (inr r) = reaching_within m at r.1

-- ---- a mark that is read

pub row_read : (Holds : ℕ → Type 0) (row : List Bool) → IsRowOf Holds row → (at : ℕ) (mark : Bool) → (mark ≡ true) ↔ (slice_get row at ≡ Some true) → (mark ≡ true) ↔ Holds at
row_read Holds row are at mark is = (λ e. (are at).0 (is.0 e), λ h. is.1 ((are at).1 h))

-- ---- items seen one by one

-- one more item that has not the property
pub none_more : {A : Type 0} (P : A → Type 0) (xs : List A) (n : ℕ) (x : A) → slice_get xs n ≡ Some x → (P x → ⊥) → ((y : A) (k : ℕ) → k < n → slice_get xs k ≡ Some y → P y → ⊥)
    → (y : A) (k : ℕ) → k < n + 1 → slice_get xs k ≡ Some y → P y → ⊥
none_more {A} P xs n x there not before y k low at h = either (cases_eq k n) where
  either : (k ≡ n) ⊎ (k ≡ n → ⊥) → ⊥
  either (inl e) = let same : y ≡ x = same_Some y x (sym (ap (slice_get xs) (sym e) ∙ at) ∙ there) in not (subst P same h)
  either (inr other) = before y k (omega (arith, low, other)) at h

-- an instruction of a block is one of the function
pub one_in_function : (m : Module) (at : ℕ) (f : Function) (b : Block) (n : ℕ) → slice_get f.blocks n ≡ Some b → OneHasEffect m at b.insts → OneHasEffect m at (insts_of f)
one_in_function m at f b n there h = let a = joined_has block_insts f.blocks b h.0 (n, there) (h.1, h.2) in (h.0, a.0, a.1, h.3)
