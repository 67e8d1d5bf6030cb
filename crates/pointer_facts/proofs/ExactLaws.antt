-- The marks of both searches are exact, and so is what is read of them.
use Rattle.std.proofs.Common.{◌≡◌, ◌⊎◌, ◌↔◌, ℕ, ◌<◌, List, [], ◌∷◌, ◌++◌, Bool, true, Option, Some, None, inl, inr, refl, sym, ap, subst, ◌∙◌, slice_get}
use Rattle.std.proofs.lemmas.Option.{none-some, same_Some}
use Rattle.ir_core.specs.declared.instructions.Value.{Value}
use Rattle.ir_core.specs.declared.instructions.Value.TheVariants.{Int as IntValue, Null, Local as LocalValue, Global as GlobalValue}
use Rattle.ir_core.specs.declared.module.Module.{Module}
use Rattle.ir_core.specs.Places.{Name}
use Rattle.reach.specs.Chains.{Leads}
use Rattle.reach.proofs.ChainLaws.{leads_itself, leads_on, leads_least}
use Rattle.call_graph.proofs.ListLaws.{in_either, last_is}
use Rattle.register_numbers.specs.Numbers.{number_of}
use Rattle.register_numbers.proofs.Apart.{number_within}
use Rattle.register_hops.specs.declared.hops.Hop.{Hop}
use Rattle.register_hops.specs.declared.nodes.Node.{Node}
use Rattle.register_hops.specs.declared.nodes.Node.TheVariants.{Register, Elsewhere}
use Rattle.register_hops.specs.declared.roots.Origin.TheVariants.{FromStack, FromElsewhere}
use Rattle.register_hops.specs.Nodes.{value_node}
use Rattle.register_hops.specs.Hops.{all_hops}
use Rattle.register_hops.specs.Roots.{all_roots}
use Rattle.register_hops.specs.Numbered.{Stands, HopsOver, IsReachedBy, AreReachedRegisters}
use Rattle.value_facts.specs.Pointers.{Spot, register, spot, CopyHop, MemoryHop, MayBeStack, MayBeOther}
use Rattle.pointer_facts.specs.Exact.{roots_elsewhere, OfNumber, IsExact, IsMarkedAt}
use Rattle.pointer_facts.specs.SideHops.{IsSideHop, AddsHops}
use Rattle.pointer_facts.proofs.GivenLaws.{IsRegister, node_at, node_of_number, number_of_node, same_value}
use Rattle.pointer_facts.proofs.KnownLaws.{IsKnown, register_known, reached_known}
use Rattle.pointer_facts.proofs.RootLaws.{root_from}
use Rattle.pointer_facts.proofs.FromLaws.{HasNode, has_node, stack_register, elsewhere_has, stack_root, elsewhere_root}
use Rattle.pointer_facts.proofs.WholeLaws.{copy_register, memory_register, copy_leads, memory_leads, chain_reached}

module _ (m : Module) where
  -- ---- a search that finds what it is to find

  module _ (May : Spot → Type 0) (hops : List Hop) (roots : List Node) (row : List Bool) where
    pub exact_row : AreReachedRegisters m hops roots row → ((x : Node) → IsReachedBy hops roots x → IsKnown m May x)
        → ((s : Spot) → May s → (y : Node) × (node_at m s ≡ Some y) × IsReachedBy hops roots y) → IsExact m May row
    exact_row are known reached = record { same = λ n. (λ e. known (Register n) ((are n).0 e).1, λ h. (are n).1 (number_within m h.0 h.1 n h.2, there n h)) } where
      there : (n : ℕ) → OfNumber m May n → IsReachedBy hops roots (Register n)
      there n h =
          let r = reached (register h.0 h.1) h.3 in
          let same = same_Some r.0 (Register n) (sym r.1 ∙ node_of_number m h.0 h.1 n h.2) in
          let P : Node → Type 0 = λ y. IsReachedBy hops roots y in
          subst P same r.2

  -- ---- pointers into a stack

  abbrev StackHop : Spot → Spot → Type 0
  StackHop a b = CopyHop m a b ⊎ MemoryHop m a b

  stack_copied : (a b : Spot) → CopyHop m a b → MayBeStack m a → MayBeStack m b
  stack_copied a b hop may = (may.0, may.1, leads_on StackHop may.0 a b may.2 (inl hop))

  stack_kept : (a b : Spot) → MemoryHop m a b → MayBeStack m a → MayBeStack m b
  stack_kept a b hop may = (may.0, may.1, leads_on StackHop may.0 a b may.2 (inr hop))

  hop_register : (a b : Spot) → StackHop a b → IsRegister m b
  hop_register a b (inl h) = copy_register m a b h
  hop_register a b (inr h) = memory_register m a b h

  stack_is_register : (s : Spot) → MayBeStack m s → IsRegister m s
  stack_is_register s may = leads_least StackHop (IsRegister m) (λ a b r h. hop_register a b h) may.0 s (stack_register m may.0 may.1) may.2

  stack_known : (x : Node) → Stands (all_roots m FromStack) x → IsKnown m (MayBeStack m) x
  stack_known x s =
      let r = root_from m FromStack x s in
      register_known m (MayBeStack m) r.at r.name x r.node (register r.at r.name, r.from, leads_itself StackHop (register r.at r.name))

  module _ (hops : List Hop) (adds : AddsHops (IsSideHop m) (all_hops m) hops) where
    all_stand : (h : Hop) → Stands (all_hops m) h → Stands hops h
    all_stand h s = (adds.same h).1 (inl s)

    hop_leads : (a b : Spot) (x y : Node) → node_at m a ≡ Some x → node_at m b ≡ Some y → StackHop a b → Leads (HopsOver hops) x y
    hop_leads a b x y from to (inl h) = copy_leads m hops all_stand a b x y from to h
    hop_leads a b x y from to (inr h) = memory_leads m hops all_stand a b x y from to (λ g s. (adds.same g).1 (inr s)) h

    stack_reached : (s : Spot) → MayBeStack m s → (y : Node) × (node_at m s ≡ Some y) × IsReachedBy hops (all_roots m FromStack) y
    stack_reached s may =
        let from = has_node m may.0 (stack_register m may.0 may.1) in
        chain_reached m hops all_stand (all_roots m FromStack) StackHop hop_register hop_leads may.0 s from.0 from.1 (stack_root m may.0 from.0 from.1 may.1) may.2

    pub stack_exact : (row : List Bool) → AreReachedRegisters m hops (all_roots m FromStack) row → IsExact m (MayBeStack m) row
    stack_exact row are =
        exact_row (MayBeStack m) hops (all_roots m FromStack) row are
        (reached_known m (MayBeStack m) stack_copied stack_kept hops (all_roots m FromStack) (λ h s. (adds.same h).0 s) stack_known)
        stack_reached

  -- ---- pointers elsewhere

  other_copied : (a b : Spot) → CopyHop m a b → MayBeOther m a → MayBeOther m b
  other_copied a b hop may = (may.0, may.1, leads_on (CopyHop m) may.0 a b may.2 hop)

  -- each load is from elsewhere
  other_kept : (a b : Spot) → MemoryHop m a b → MayBeOther m a → MayBeOther m b
  other_kept a b hop may = (b, inr (inl hop.1), leads_itself (CopyHop m) b)

  other_has_node : (s : Spot) → MayBeOther m s → HasNode m s
  other_has_node s may = leads_least (CopyHop m) (HasNode m) (λ a b r h. has_node m b (copy_register m a b h)) may.0 s (elsewhere_has m may.0 may.1) may.2

  -- null and globals
  pub constant_other : (at : ℕ) (v : Value) → (v ≡ Null) ⊎ ((x : Name) × (v ≡ GlobalValue x)) → MayBeOther m (spot at v)
  constant_other at v (inl e) = (spot at v, inr (inr (inr (inl e))), leads_itself (CopyHop m) (spot at v))
  constant_other at v (inr e) = (spot at v, inr (inr (inr (inr (inl e)))), leads_itself (CopyHop m) (spot at v))

  elsewhere_may : (at : ℕ) (v : Value) → value_node m at v ≡ Some Elsewhere → MayBeOther m (spot at v)
  elsewhere_may at (IntValue n) e = absurd (none-some Elsewhere e)
  elsewhere_may at Null e = constant_other at Null (inl refl)
  elsewhere_may at (GlobalValue x) e = constant_other at (GlobalValue x) (inr (x, refl))
  elsewhere_may at (LocalValue x) e = let r = number_of_node m at x Elsewhere e in let is = r.2 in let f : ⊥ = cc in absurd f

  other_known : (x : Node) → Stands (roots_elsewhere m) x → IsKnown m (MayBeOther m) x
  other_known x s = elim (in_either (all_roots m FromElsewhere) (Elsewhere ∷ []) x s) [
    | inl a ↦
        let r = root_from m FromElsewhere x a in
        register_known m (MayBeOther m) r.at r.name x r.node (register r.at r.name, r.from, leads_itself (CopyHop m) (register r.at r.name))
    | inr b ↦
        let P : Node → Type 0 = λ y. IsKnown m (MayBeOther m) y in
        subst P (sym (last_is Elsewhere x b)) (λ t e. elsewhere_may t.function t.value e)
  ]

  other_reached : (s : Spot) → MayBeOther m s → (y : Node) × (node_at m s ≡ Some y) × IsReachedBy (all_hops m) (roots_elsewhere m) y
  other_reached s may =
      let from = elsewhere_has m may.0 may.1 in
      chain_reached m (all_hops m) (λ h s. s) (roots_elsewhere m) (CopyHop m) (λ a b h. copy_register m a b h) (λ a b x y p q h. copy_leads m (all_hops m) (λ g s. s) a b x y p q h)
      may.0 s from.0 from.1 (elsewhere_root m may.0 from.0 from.1 may.1) may.2

  pub other_exact : (row : List Bool) → AreReachedRegisters m (all_hops m) (roots_elsewhere m) row → IsExact m (MayBeOther m) row
  other_exact row are =
      exact_row (MayBeOther m) (all_hops m) (roots_elsewhere m) row are
      (reached_known m (MayBeOther m) other_copied other_kept (all_hops m) (roots_elsewhere m) (λ h s. inl s) other_known)
      other_reached

  -- ---- marks that are read

  module _ (May : Spot → Type 0) (row : List Bool) (exact : IsExact m May row) (has : (s : Spot) → May s → HasNode m s) (at : ℕ) (x : Name) where
    may_of_mark : IsMarkedAt m row at x → May (register at x)
    may_of_mark h =
        let r = (exact.same h.0).0 h.2 in
        subst May (sym (same_value m r.0 r.1 h.0 r.2 at (LocalValue x) (node_of_number m at x h.0 h.1))) r.3

    mark_of_may : May (register at x) → IsMarkedAt m row at x
    mark_of_may may =
        let node = has (register at x) may in
        let r = number_of_node m at x node.0 node.1 in
        (r.0, r.1, (exact.same r.0).1 (at, x, r.1, may))

    pub mark_read : (result : Bool) → (result ≡ true) ↔ IsMarkedAt m row at x → (result ≡ true) ↔ May (register at x)
    mark_read result is = (λ e. may_of_mark (is.0 e), λ may. is.1 (mark_of_may may))

  pub stack_read : (row : List Bool) → IsExact m (MayBeStack m) row → (at : ℕ) (x : Name) (result : Bool) → (result ≡ true) ↔ IsMarkedAt m row at x → (result ≡ true) ↔ MayBeStack m (spot at (LocalValue x))
  stack_read row exact at x result is = mark_read (MayBeStack m) row exact (λ s may. has_node m s (stack_is_register s may)) at x result is

  pub other_read : (row : List Bool) → IsExact m (MayBeOther m) row → (at : ℕ) (x : Name) (result : Bool) → (result ≡ true) ↔ IsMarkedAt m row at x → (result ≡ true) ↔ MayBeOther m (spot at (LocalValue x))
  other_read row exact at x result is = mark_read (MayBeOther m) row exact other_has_node at x result is

  -- a value that is no register points into no stack
  pub no_stack : (at : ℕ) (v : Value) → ((x : Name) → v ≡ LocalValue x → ⊥) → MayBeStack m (spot at v) → ⊥
  no_stack at v other may = let r = stack_is_register (spot at v) may in other r.0 r.1

  -- a number is no pointer
  pub no_pointer : (at n : ℕ) (v : Value) → v ≡ IntValue n → MayBeOther m (spot at v) → ⊥
  no_pointer at n v e may = let r = other_has_node (spot at v) may in none-some r.0 (ap (value_node m at) (sym e) ∙ r.1)
