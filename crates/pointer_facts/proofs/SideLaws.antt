-- The hops through memory as they are added, side by side and function by function.
use Rattle.std.proofs.Common.{◌≡◌, ◌⊎◌, ◌↔◌, ℕ, ◌+◌, ◌<◌, ◌≤◌, List, [], ◌∷◌, ◌++◌, length, Bool, true, false, Some, inl, inr, refl, sym, ap, subst, ◌∙◌, slice_get, arith}
use Rattle.std.proofs.lemmas.Bool.{cases_eq}
use Rattle.ir_core.specs.declared.module.Module.{Module}
use Rattle.ir_core.specs.declared.module.Function.{Function}
use Rattle.shapes.specs.CallPaths.{IsKernelAt}
use Rattle.shapes.specs.KernelShape.{is_kernel}
use Rattle.call_graph.proofs.ListLaws.{in_front, behind, in_either, last_is}
use Rattle.register_hops.specs.declared.hops.Hop.{Hop}
use Rattle.register_hops.specs.declared.nodes.Node.{Node}
use Rattle.register_hops.specs.declared.nodes.Node.TheVariants.{Elsewhere, Stored, Loaded, Main, Region}
use Rattle.register_hops.specs.declared.roots.Origin.TheVariants.{FromElsewhere}
use Rattle.register_hops.specs.Hops.{all_hops}
use Rattle.register_hops.specs.Numbered.{IsNode, Stands, AreNodes, JoinNodes}
use Rattle.register_hops.proofs.NodeLaws.{hops_join, roots_are}
use Rattle.register_hops.specs.Roots.{all_roots}
use Rattle.pointer_facts.specs.Exact.{roots_elsewhere}
use Rattle.pointer_facts.specs.SideHops.{IsSide, IsOnSide, hops_on, IsHopAt, IsHopBefore, IsHopOnSide, IsMainHopBefore, IsMainHop, IsSideHop, AddsHops}

-- ---- hops that are added

pub adds_none : (Holds : Hop → Type 0) (old : List Hop) → ((h : Hop) → Holds h → ⊥) → AddsHops Holds old old
adds_none Holds old none = record { same = λ h. (λ s. inl s, λ r. elim r [ inl s ↦ s | inr k ↦ absurd (none h k) ]) }

pub adds_both : (One Other Both : Hop → Type 0) (old mid new : List Hop) → AddsHops One old mid → AddsHops Other mid new → ((h : Hop) → Both h ↔ (One h ⊎ Other h)) → AddsHops Both old new
adds_both One Other Both old mid new first second is = record { same = λ h. (found h, stands h) } where
  found : (h : Hop) → Stands new h → Stands old h ⊎ Both h
  found h s = elim ((second.same h).0 s) [
    | inl t ↦ elim ((first.same h).0 t) [ inl o ↦ inl o | inr k ↦ inr ((is h).1 (inl k)) ]
    | inr k ↦ inr ((is h).1 (inr k))
  ]

  stands : (h : Hop) → Stands old h ⊎ Both h → Stands new h
  stands h (inl o) = (second.same h).1 (inl ((first.same h).1 (inl o)))
  stands h (inr b) = elim ((is h).0 b) [ inl k ↦ (second.same h).1 (inl ((first.same h).1 (inr k))) | inr k ↦ (second.same h).1 (inr k) ]

pub adds_behind : (old more new : List Hop) → new ≡ old ++ more → AddsHops (Stands more) old new
adds_behind old more new e =
    let P : List Hop → Type 0 = λ hs. AddsHops (Stands more) old hs in
    subst P (sym e) (record { same = λ h. (λ s. in_either old more h s, λ r. elim r [ inl s ↦ in_front old more h s | inr s ↦ behind old more h s ]) })

module _ (Holds : ℕ → Hop → Type 0) where
  abbrev Below : ℕ → Hop → Type 0
  Below n h = (at : ℕ) × (at < n) × Holds at h

  below_next : (n : ℕ) (h : Hop) → Below (n + 1) h ↔ (Below n h ⊎ Holds n h)
  below_next n h = (λ k. of k (cases_eq k.0 n), λ r. elim r [ inl k ↦ (k.0, (let low = k.1 in omega (arith, low)), k.2) | inr k ↦ (n, omega arith, k) ]) where
    of : (k : Below (n + 1) h) → (k.0 ≡ n) ⊎ (k.0 ≡ n → ⊥) → Below n h ⊎ Holds n h
    of k (inl e) = inr (let P : ℕ → Type 0 = λ at. Holds at h in subst P e k.2)
    of k (inr other) = inl (k.0, (let low = k.1 in omega (arith, low, other)), k.2)

  -- those of one place more
  pub adds_next : (n : ℕ) (old mid new : List Hop) → AddsHops (λ h. Below n h) old mid → AddsHops (Holds n) mid new → AddsHops (λ h. Below (n + 1) h) old new
  adds_next n old mid new before here = adds_both (Below n) (Holds n) (Below (n + 1)) old mid new before here (below_next n)

  pub adds_first : (old : List Hop) → AddsHops (λ h. Below 0 h) old old
  adds_first old = adds_none (Below 0) old (λ h k. let low = k.1 in omega (arith, low))

  pub adds_all : (places n : ℕ) (old new : List Hop) → n ≡ places → AddsHops (λ h. Below n h) old new → AddsHops (λ h. Below places h) old new
  adds_all places n old new e adds = let P : ℕ → Type 0 = λ k. AddsHops (λ h. Below k h) old new in subst P e adds

-- ---- functions on a side

module _ (m : Module) (side : Node) where
  module _ (at : ℕ) (old new : List Hop) where
    pub adds_on : IsOnSide m side at → new ≡ old ++ hops_on side at → AddsHops (IsHopAt m side at) old new
    adds_on on e = record { same = λ h. (λ s. found h ((all.same h).0 s), λ k. (all.same h).1 (stands h k)) } where
      all : AddsHops (Stands (hops_on side at)) old new
      all = adds_behind old (hops_on side at) new e

      found : (h : Hop) → Stands old h ⊎ Stands (hops_on side at) h → Stands old h ⊎ IsHopAt m side at h
      found h (inl o) = inl o
      found h (inr k) = inr (on, k)

      stands : (h : Hop) → Stands old h ⊎ IsHopAt m side at h → Stands old h ⊎ Stands (hops_on side at) h
      stands h (inl o) = inl o
      stands h (inr k) = inr k.1

    pub adds_off : (IsOnSide m side at → ⊥) → AddsHops (IsHopAt m side at) old old
    adds_off off = adds_none (IsHopAt m side at) old (λ h k. off k.0)

-- ---- kernels

module _ (m : Module) (at : ℕ) (f : Function) (there : slice_get m.functions at ≡ Some f) where
  pub no_kernel : is_kernel f ≡ false → (h : Hop) → IsHopOnSide m (Main at) h → ⊥
  no_kernel not h k =
      let kernel = k.2.0.0 in
      let there_too = kernel.1 in
      let is = kernel.2 in
      let same : kernel.0 ≡ f = cc in
      let e : ⊥ = cc in
      e

-- ---- the hops join nodes

two_join : (m : Module) (side : Node) (at : ℕ) (h : Hop) → at < length m.functions → IsNode m side → Stands (hops_on side at) h → IsNode m h.from × IsNode m h.to
two_join m side at h low node s =
    let P : Hop → Type 0 = λ k. IsNode m k.from × IsNode m k.to in
    elim (in_either (record { from = Stored at; to = side } ∷ []) (record { from = side; to = Loaded at } ∷ []) h s) [
      | inl a ↦ subst P (sym (last_is (record { from = Stored at; to = side }) h a)) (low, node)
      | inr b ↦ subst P (sym (last_is (record { from = side; to = Loaded at }) h b)) (node, low)
    ]

side_joins : (m : Module) (h : Hop) → IsSideHop m h → IsNode m h.from × IsNode m h.to
side_joins m h (inl k) = let r = k.2 in two_join m (Main k.0) r.0 h r.1 k.1 r.2.1
side_joins m h (inr r) = two_join m Region r.0 h r.1 tt r.2.1

pub all_join : (m : Module) (hops : List Hop) → AddsHops (IsSideHop m) (all_hops m) hops → JoinNodes m hops
all_join m hops adds h s = elim ((adds.same h).0 s) [ inl a ↦ hops_join m h a | inr k ↦ side_joins m h k ]

pub elsewhere_are : (m : Module) → AreNodes m (roots_elsewhere m)
elsewhere_are m x s = elim (in_either (all_roots m FromElsewhere) (Elsewhere ∷ []) x s) [
  | inl a ↦ roots_are m FromElsewhere x a
  | inr b ↦ let P : Node → Type 0 = λ y. IsNode m y in subst P (sym (last_is Elsewhere x b)) tt
]
