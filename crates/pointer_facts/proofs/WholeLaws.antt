-- Each hop of values is a chain of hops between their nodes.
use Rattle.std.proofs.Common.{◌≡◌, ◌⊎◌, ℕ, ◌<◌, List, [], ◌∷◌, length, Bool, true, false, Option, Some, None, option_and_then, if◌then◌else◌, inl, inr, refl, sym, ap, subst, ◌∙◌, slice_get}
use Rattle.std.proofs.lemmas.Option.{slice_get_within}
use Rattle.ir_core.specs.declared.instructions.Value.{Value}
use Rattle.ir_core.specs.declared.instructions.Value.TheVariants.{Local as LocalValue, Global as GlobalValue}
use Rattle.ir_core.specs.declared.instructions.Typed.{Typed}
use Rattle.ir_core.specs.declared.instructions.Kind.{Kind}
use Rattle.ir_core.specs.declared.instructions.Kind.TheVariants.{Select, Phi, Load, Store, Gep, Call, Ret}
use Rattle.ir_core.specs.declared.instructions.Inst.{Inst}
use Rattle.ir_core.specs.declared.module.Module.{Module}
use Rattle.ir_core.specs.declared.module.Function.{Function}
use Rattle.ir_core.specs.FirstForm.{is_ptr}
use Rattle.ir_core.specs.Places.{Name}
use Rattle.reach.specs.Chains.{Leads}
use Rattle.reach.proofs.ChainLaws.{leads_itself, leads_by_hop, leads_through, leads_on, leads_least}
use Rattle.call_graph.proofs.ListLaws.{in_front, behind, joined_has}
use Rattle.call_graph.proofs.SideLaws.{kernel_within}
use Rattle.register_hops.specs.declared.hops.Hop.{Hop}
use Rattle.register_hops.specs.declared.nodes.Node.{Node}
use Rattle.register_hops.specs.declared.nodes.Node.TheVariants.{Returned, Stored, Loaded, Main, Region}
use Rattle.register_hops.specs.Nodes.{register_node, value_node, result_node}
use Rattle.register_hops.specs.Hops.{hop_from, hop, if_defined, defined_place, params_of, operand_hops, hops_of_call, edge_hops, kind_hops, inst_hops, all_hops}
use Rattle.register_hops.specs.Numbered.{Stands, HopsOver, IsReachedBy}
use Rattle.register_hops.proofs.MadeLaws.{makes_hop, operand_hop_stands, is_among_all}
use Rattle.value_facts.specs.Pointers.{Spot, register, StandsIn, Copies, CopiesWithin, CallsFunction, GoesIntoCall, ComesFromCall, CopyHop, IsStored, IsLoaded, MemoryHop}
use Rattle.pointer_facts.specs.SideHops.{IsOnSide, IsHopOnSide, hops_on, IsSideHop}
use Rattle.pointer_facts.proofs.GivenLaws.{IsRegister, node_at, param_has, result_has, result_of}
use Rattle.pointer_facts.proofs.FromLaws.{HasNode, has_node, loaded_register}

abbrev over : Node → Node → Hop
over x y = record { from = x; to = y }

-- ---- where a hop of values leads, there is a register

module _ (m : Module) (a b : Spot) where
  pub copy_register : CopyHop m a b → IsRegister m b
  copy_register (inl h) =
      let P : Spot → Type 0 = λ s. IsRegister m s in
      subst P (sym h.4) (h.0, refl, result_has m a.function h.2.0 h.0 h.2.1 h.2.2)
  copy_register (inr (inl h)) = (h.5.name, h.9, param_has m b.function h.2.function h.3 h.5 h.2.there h.7)
  copy_register (inr (inr h)) = (h.4, h.7, result_has m b.function h.0 h.4 h.3.stands h.6)

  pub memory_register : MemoryHop m a b → IsRegister m b
  memory_register h = loaded_register m b h.1

-- ---- the hops that instructions make

module _ (m : Module) where
  copy_made : (at : ℕ) (result : Option Node) (x y : Node) (kind : Kind) (v : Value) → Copies kind v → value_node m at v ≡ Some x → result ≡ Some y → Stands (kind_hops m at result kind) (over x y)
  copy_made at result x y (Gep inbounds ty base path) v same p q = makes_hop (value_node m at base.value) result (over x y) (ap (value_node m at) same ∙ p) q
  copy_made at result x y (Select c a b) v (inl same) p q =
      in_front (hop (value_node m at a.value) result) (hop (value_node m at b.value) result) (over x y) (makes_hop (value_node m at a.value) result (over x y) (ap (value_node m at) same ∙ p) q)
  copy_made at result x y (Select c a b) v (inr same) p q =
      behind (hop (value_node m at a.value) result) (hop (value_node m at b.value) result) (over x y) (makes_hop (value_node m at b.value) result (over x y) (ap (value_node m at) same ∙ p) q)
  copy_made at result x y (Phi ty edges) v h p q =
      joined_has (edge_hops m at result) edges h.1 (over x y) (h.0, h.2) (makes_hop (value_node m at h.1.value) result (over x y) (ap (value_node m at) h.3 ∙ p) q)
  copy_made at result x y _ v h p q = absurd h

  module _ (at to : ℕ) (i : Inst) (operands : List Typed) (c : CallsFunction m at to i operands) where
    pub defined_there : defined_place m (GlobalValue c.callee) ≡ Some to
    defined_there =
        ap (option_and_then (λ k. if_defined k (slice_get m.functions k))) c.named
        ∙ ap (if_defined to) c.there
        ∙ ap (λ test. if test then Some to else None) c.defined

    call_made : (h : Hop) → Stands (hops_of_call m at (result_node m at i.result) operands (Some to)) h → Stands (inst_hops m at i) h
    call_made h s =
        let P : Kind → Type 0 = λ k. Stands (kind_hops m at (result_node m at i.result) k) h in
        let Q : Option ℕ → Type 0 = λ o. Stands (hops_of_call m at (result_node m at i.result) operands o) h in
        subst P (sym c.is) (subst Q (sym defined_there) s)

  module _ (hops : List Hop) (all : (h : Hop) → Stands (all_hops m) h → Stands hops h) where
    abbrev pub LeadsOver : Node → Node → Type 0
    LeadsOver x y = Leads (HopsOver hops) x y

    one_hop : (x y : Node) → Stands hops (over x y) → LeadsOver x y
    one_hop x y s = leads_by_hop (HopsOver hops) x y (over x y, s, refl, refl)

    made_leads : (at : ℕ) (i : Inst) (x y : Node) → StandsIn m at i → Stands (inst_hops m at i) (over x y) → LeadsOver x y
    made_leads at i x y stands made =
        one_hop x y (all (over x y) (is_among_all m (over x y) (record {
          at = at;
          function = stands.0;
          there = stands.2;
          inst = i;
          stands = (stands.1, stands.3);
          made = made;
        })))

    kind_leads : (at : ℕ) (i : Inst) (kind : Kind) (x y : Node) → StandsIn m at i → i.kind ≡ kind → Stands (kind_hops m at (result_node m at i.result) kind) (over x y) → LeadsOver x y
    kind_leads at i kind x y stands is made =
        let P : Kind → Type 0 = λ k. Stands (kind_hops m at (result_node m at i.result) k) (over x y) in
        made_leads at i x y stands (subst P (sym is) made)

    -- ---- copies

    module _ (a b : Spot) (x y : Node) (from : node_at m a ≡ Some x) (to : node_at m b ≡ Some y) where
      within_leads : CopiesWithin m a b → LeadsOver x y
      within_leads h =
          let gives = h.2 in
          let result = result_of m a.function gives.0.result h.0 y gives.2 (ap (node_at m) (sym h.4) ∙ to) in
          kind_leads a.function gives.0 h.1 x y gives.1 gives.3 (copy_made a.function (result_node m a.function gives.0.result) x y h.1 a.value h.3 from result)

      into_leads : GoesIntoCall m a b → LeadsOver x y
      into_leads h =
          let i = h.0 in
          let operands = h.1 in
          let c = h.2 in
          let place = h.3 in
          let v = h.4 in
          let p = h.5 in
          let params = params_of (slice_get m.functions b.function) in
          let has_param : slice_get params place ≡ Some p = ap (λ g. slice_get (params_of g) place) c.there ∙ h.7 in
          let made = makes_hop (value_node m a.function v.value) (register_node m b.function p.name) (over x y) (ap (value_node m a.function) h.8 ∙ from) (ap (value_node m b.function) (sym h.9) ∙ to) in
          let stands = operand_hop_stands m a.function b.function operands params place v p (over x y) h.6 has_param made in
          let result = result_node m a.function i.result in
          made_leads a.function i x y c.stands
          (call_made a.function b.function i operands c (over x y) (in_front (operand_hops m a.function b.function operands params) (hop_from (Returned b.function) result) (over x y) stands))

      from_leads : ComesFromCall m a b → LeadsOver x y
      from_leads h =
          let i = h.0 in
          let leave = h.1 in
          let operands = h.2 in
          let c = h.3 in
          let v = h.5 in
          let middle = Returned a.function in
          let result = result_of m b.function i.result h.4 y h.6 (ap (value_node m b.function) (sym h.7) ∙ to) in
          let out = makes_hop (value_node m a.function v.value) (Some middle) (over x middle) (ap (value_node m a.function) h.10 ∙ from) refl in
          let back = makes_hop (Some middle) (result_node m b.function i.result) (over middle y) refl result in
          let params = params_of (slice_get m.functions a.function) in
          let behind_operands = behind (operand_hops m b.function a.function operands params) (hop_from middle (result_node m b.function i.result)) (over middle y) back in
          leads_through (HopsOver hops) x middle y
          (kind_leads a.function leave _ x middle h.8 h.9 out)
          (made_leads b.function i middle y c.stands (call_made b.function a.function i operands c (over middle y) behind_operands))

      pub copy_leads : CopyHop m a b → LeadsOver x y
      copy_leads (inl h) = within_leads h
      copy_leads (inr (inl h)) = into_leads h
      copy_leads (inr (inr h)) = from_leads h

      -- ---- hops through memory

      module _ (sides : (h : Hop) → IsSideHop m h → Stands hops h) where
        stored_leads : IsStored m a → LeadsOver x (Stored a.function)
        stored_leads h =
            let v = h.1 in
            let made = makes_hop (value_node m a.function v.value) (Some (Stored a.function)) (over x (Stored a.function)) (ap (value_node m a.function) h.8 ∙ from) refl in
            let P : Bool → Type 0 = λ test. Stands (if test then hop (value_node m a.function v.value) (Some (Stored a.function)) else []) (over x (Stored a.function)) in
            kind_leads a.function h.0 _ x (Stored a.function) h.5 h.6 (subst P (sym h.7) made)

        loaded_leads : IsLoaded m b → LeadsOver (Loaded b.function) y
        loaded_leads h =
            let gives = h.4 in
            let i = gives.0 in
            let result = result_of m b.function i.result h.0 y gives.2 (ap (value_node m b.function) (sym h.5) ∙ to) in
            kind_leads b.function i _ (Loaded b.function) y gives.1 gives.3 (makes_hop (Some (Loaded b.function)) (result_node m b.function i.result) (over (Loaded b.function) y) refl result)

        stored_within : IsStored m a → a.function < length m.functions
        stored_within h = slice_get_within m.functions a.function h.5.0 h.5.2

        loaded_within : IsLoaded m b → b.function < length m.functions
        loaded_within h = slice_get_within m.functions b.function h.4.1.0 h.4.1.2

        over_side : (side : Node) → IsOnSide m side a.function → IsOnSide m side b.function → ((h : Hop) → IsHopOnSide m side h → Stands hops h) → MemoryHop m a b → LeadsOver x y
        over_side side here there stand h =
            let up = stand (over (Stored a.function) side) (a.function, stored_within h.0, (here, (0, refl))) in
            let down = stand (over side (Loaded b.function)) (b.function, loaded_within h.1, (there, (1, refl))) in
            let stored = leads_through (HopsOver hops) x (Stored a.function) side (stored_leads h.0) (one_hop (Stored a.function) side up) in
            let loaded = leads_through (HopsOver hops) side (Loaded b.function) y (one_hop side (Loaded b.function) down) (loaded_leads h.1) in
            leads_through (HopsOver hops) x side y stored loaded

        pub memory_leads : MemoryHop m a b → LeadsOver x y
        memory_leads h = elim h.2 [
          | inl k ↦ over_side (Main k.0) k.1 k.2 (λ g s. sides g (inl (k.0, kernel_within m k.0 k.1.0, s))) h
          | inr r ↦ over_side Region r.0 r.1 (λ g s. sides g (inr s)) h
        ]

    -- ---- chains

    -- what a chain of hops of values leads to is reached, where each hop of it is a chain of hops of nodes
    pub chain_reached : (roots : List Node) (Hops : Spot → Spot → Type 0) → ((a b : Spot) → Hops a b → IsRegister m b)
        → ((a b : Spot) (x y : Node) → node_at m a ≡ Some x → node_at m b ≡ Some y → Hops a b → LeadsOver x y)
        → (from s : Spot) (x : Node) → node_at m from ≡ Some x → Stands roots x → Leads Hops from s → (y : Node) × (node_at m s ≡ Some y) × IsReachedBy hops roots y
    chain_reached roots Hops registers leads from s x node root chain = leads_least Hops Reached next from s (x, node, (x, root, leads_itself (HopsOver hops) x)) chain where
      Reached : Spot → Type 0
      Reached t = (y : Node) × (node_at m t ≡ Some y) × IsReachedBy hops roots y

      next : (a b : Spot) → Reached a → Hops a b → Reached b
      next a b r h =
          let to = has_node m b (registers a b h) in
          (to.0, to.1, (r.2.0, r.2.1, leads_through (HopsOver hops) r.2.0 r.0 to.0 r.2.2 (leads a b r.0 to.0 r.1 to.1 h)))
