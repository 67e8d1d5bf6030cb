-- The hops and roots of a module join nodes of the module.
use Rattle.std.proofs.Common.{◌≡◌, ℕ, ◌+◌, ◌<◌, List, [], ◌∷◌, length, Bool, true, false, Option, Some, None, option_map, option_and_then, if◌then◌else◌, inl, inr, refl, sym, ap, subst, slice_get, arith}
use Rattle.std.specs.List.{flat_map}
use Rattle.std.proofs.lemmas.Option.{none-some, same_Some, slice_get_within}
use Rattle.ir_core.specs.declared.instructions.Value.{Value}
use Rattle.ir_core.specs.declared.instructions.Value.TheVariants.{Int as IntValue, Null, Local as LocalValue, Global as GlobalValue}
use Rattle.ir_core.specs.declared.instructions.Typed.{Typed}
use Rattle.ir_core.specs.declared.instructions.Kind.{Kind}
use Rattle.ir_core.specs.declared.instructions.Kind.TheVariants.{Select, Phi, Load, Store, Gep, Call, Ret}
use Rattle.ir_core.specs.declared.module.Module.{Module}
use Rattle.ir_core.specs.declared.module.Function.{Function}
use Rattle.ir_core.specs.declared.module.Param.{Param}
use Rattle.ir_core.specs.FirstForm.{is_ptr}
use Rattle.ir_core.specs.Places.{Name, function_place}
use Rattle.shapes.specs.Facts.{insts_of}
use Rattle.shapes.specs.KernelShape.{is_kernel}
use Rattle.shapes.specs.Wrappers.{is_defined}
use Rattle.call_graph.proofs.ListLaws.{none_among, in_either, last_is, within_joined}
use Rattle.register_numbers.specs.Numbers.{number_of}
use Rattle.register_numbers.proofs.Apart.{number_within}
use Rattle.register_hops.specs.declared.hops.Hop.{Hop}
use Rattle.register_hops.specs.declared.nodes.Node.{Node}
use Rattle.register_hops.specs.declared.nodes.Node.TheVariants.{Register, Elsewhere, Returned, Stored, Loaded}
use Rattle.register_hops.specs.declared.roots.Origin.{Origin}
use Rattle.register_hops.specs.Placed.{by_place}
use Rattle.register_hops.specs.Nodes.{register_node, value_node, result_node}
use Rattle.register_hops.specs.Hops.{hop_from, hop, if_defined, defined_place, params_of, operand_hops, hops_of_call, edge_hops, return_hops, kind_hops, inst_hops, function_hops, all_hops}
use Rattle.register_hops.specs.Roots.{root_if, is_region, is_given, makes, inst_roots, param_root, function_roots, all_roots}
use Rattle.register_hops.specs.Numbered.{IsNode, Stands, AreNodes, JoinNodes}
use Rattle.register_hops.proofs.PlacedLaws.{given_at}

-- a hop that is made between two nodes is the hop from the one to the other
pub hop_from_is : (from : Node) (to : Option Node) (h : Hop) → Stands (hop_from from to) h → (from ≡ h.from) × (to ≡ Some h.to)
hop_from_is from None h s = absurd (none_among h s)
hop_from_is from (Some to) h s =
    let same = last_is (record { from = from; to = to }) h s in
    (sym (ap (λ (k : Hop). k.from) same), sym (ap (λ (k : Hop). Some k.to) same))

pub hop_is : (from to : Option Node) (h : Hop) → Stands (hop from to) h → (from ≡ Some h.from) × (to ≡ Some h.to)
hop_is None to h s = absurd (none_among h s)
hop_is (Some from) to h s = let ends = hop_from_is from to h s in (ap Some ends.0, ends.1)

pub root_is : (test : Bool) (o : Option Node) (x : Node) → Stands (root_if test o) x → (test ≡ true) × (o ≡ Some x)
root_is false o x s = absurd (none_among x s)
root_is true None x s = absurd (none_among x s)
root_is true (Some y) x s = (refl, ap Some (sym (last_is y x s)))

module _ (m : Module) where
  abbrev MayBeNode : Option Node → Type 0
  MayBeNode o = (x : Node) → o ≡ Some x → IsNode m x

  register_may_be : (at : ℕ) (x : Name) → MayBeNode (register_node m at x)
  register_may_be at x n e = of (number_of m at x) refl e where
    of : (o : Option ℕ) → number_of m at x ≡ o → option_map Register o ≡ Some n → IsNode m n
    of None found f = absurd (none-some n f)
    of (Some k) found f = let P : Node → Type 0 = λ y. IsNode m y in subst P (same_Some (Register k) n f) (number_within m at x k found)

  value_may_be : (at : ℕ) (v : Value) → MayBeNode (value_node m at v)
  value_may_be at (IntValue n) x e = absurd (none-some x e)
  value_may_be at Null x e = let P : Node → Type 0 = λ y. IsNode m y in subst P (same_Some Elsewhere x e) tt
  value_may_be at (LocalValue y) x e = register_may_be at y x e
  value_may_be at (GlobalValue y) x e = let P : Node → Type 0 = λ y. IsNode m y in subst P (same_Some Elsewhere x e) tt

  result_may_be : (at : ℕ) (o : Option Name) → MayBeNode (result_node m at o)
  result_may_be at None x e = absurd (none-some x e)
  result_may_be at (Some y) x e = register_may_be at y x e

  some_may_be : (y : Node) → IsNode m y → MayBeNode (Some y)
  some_may_be y h x e = let P : Node → Type 0 = λ z. IsNode m z in subst P (same_Some y x e) h

  abbrev Joins : Hop → Type 0
  Joins h = IsNode m h.from × IsNode m h.to

  hop_joins : (from to : Option Node) → MayBeNode from → MayBeNode to → (h : Hop) → Stands (hop from to) h → Joins h
  hop_joins from to p q h s = let ends = hop_is from to h s in (p h.from ends.0, q h.to ends.1)

  -- ---- calls

  defined_within : (v : Value) (k : ℕ) → defined_place m v ≡ Some k → k < length m.functions
  defined_within (IntValue n) k e = absurd (none-some k e)
  defined_within Null k e = absurd (none-some k e)
  defined_within (LocalValue x) k e = absurd (none-some k e)
  defined_within (GlobalValue x) k e = by_name (function_place m x) e where
    by_test : (j : ℕ) (f : Function) (test : Bool) → slice_get m.functions j ≡ Some f → (if test then Some j else None) ≡ Some k → k < length m.functions
    by_test j f true there e = let low = slice_get_within m.functions j f there in let same = same_Some j k e in omega (arith, low, same)
    by_test j f false there e = absurd (none-some k e)

    by_function : (j : ℕ) (o : Option Function) → slice_get m.functions j ≡ o → if_defined j o ≡ Some k → k < length m.functions
    by_function j None there e = absurd (none-some k e)
    by_function j (Some f) there e = by_test j f (is_defined f) there e

    by_name : (o : Option ℕ) → option_and_then (λ j. if_defined j (slice_get m.functions j)) o ≡ Some k → k < length m.functions
    by_name None e = absurd (none-some k e)
    by_name (Some j) e = by_function j (slice_get m.functions j) refl e

  operands_join : (at to : ℕ) (vs : List Typed) (ps : List Param) (h : Hop) → Stands (operand_hops m at to vs ps) h → Joins h
  operands_join at to [] ps h s = absurd (none_among h s)
  operands_join at to (v ∷ vs) [] h s = absurd (none_among h s)
  operands_join at to (v ∷ vs) (p ∷ ps) h s =
      elim (in_either (hop (value_node m at v.value) (register_node m to p.name)) (operand_hops m at to vs ps) h s) [
        | inl a ↦ hop_joins (value_node m at v.value) (register_node m to p.name) (value_may_be at v.value) (register_may_be to p.name) h a
        | inr b ↦ operands_join at to vs ps h b
      ]

  call_joins : (at : ℕ) (result : Option Node) (vs : List Typed) (o : Option ℕ) → MayBeNode result → ((k : ℕ) → o ≡ Some k → k < length m.functions) → (h : Hop) → Stands (hops_of_call m at result vs o) h → Joins h
  call_joins at result vs None q low h s = absurd (none_among h s)
  call_joins at result vs (Some to) q low h s =
      elim (in_either (operand_hops m at to vs (params_of (slice_get m.functions to))) (hop_from (Returned to) result) h s) [
        | inl a ↦ operands_join at to vs (params_of (slice_get m.functions to)) h a
        | inr b ↦ hop_joins (Some (Returned to)) result (some_may_be (Returned to) (low to refl)) q h b
      ]

  -- ---- instructions

  module _ (at : ℕ) (here : at < length m.functions) (result : Option Node) (given : MayBeNode result) where
    store_joins : (v : Typed) (test : Bool) (h : Hop) → Stands (if test then hop (value_node m at v.value) (Some (Stored at)) else []) h → Joins h
    store_joins v false h s = absurd (none_among h s)
    store_joins v true h s = hop_joins (value_node m at v.value) (Some (Stored at)) (value_may_be at v.value) (some_may_be (Stored at) here) h s

    load_joins : (test : Bool) (h : Hop) → Stands (if test then hop_from (Loaded at) result else []) h → Joins h
    load_joins false h s = absurd (none_among h s)
    load_joins true h s = hop_joins (Some (Loaded at)) result (some_may_be (Loaded at) here) given h s

    return_joins : (o : Option Typed) (h : Hop) → Stands (return_hops m at o) h → Joins h
    return_joins None h s = absurd (none_among h s)
    return_joins (Some v) h s = hop_joins (value_node m at v.value) (Some (Returned at)) (value_may_be at v.value) (some_may_be (Returned at) here) h s

    copy_joins : (v : Value) (h : Hop) → Stands (hop (value_node m at v) result) h → Joins h
    copy_joins v h s = hop_joins (value_node m at v) result (value_may_be at v) given h s

    kind_joins : (kind : Kind) (h : Hop) → Stands (kind_hops m at result kind) h → Joins h
    kind_joins (Gep inbounds ty base path) h s = copy_joins base.value h s
    kind_joins (Select c a b) h s =
        elim (in_either (hop (value_node m at a.value) result) (hop (value_node m at b.value) result) h s) [
          | inl p ↦ copy_joins a.value h p
          | inr q ↦ copy_joins b.value h q
        ]
    kind_joins (Phi ty edges) h s = let w = within_joined (edge_hops m at result) edges h s in copy_joins w.0.value h w.2
    kind_joins (Call tail_word ret callee operands) h s = call_joins at result operands (defined_place m callee) given (defined_within callee) h s
    kind_joins (Store v p order align) h s = store_joins v (is_ptr v.ty) h s
    kind_joins (Load ty p order align) h s = load_joins (is_ptr ty) h s
    kind_joins (Ret v) h s = return_joins v h s
    kind_joins _ h s = absurd (none_among h s)

  pub hops_join : JoinNodes m (all_hops m)
  hops_join h s =
      let g = given_at (function_hops m) m.functions 0 h s in
      let w = within_joined (inst_hops m (0 + g.place)) (insts_of g.item) h g.given in
      let low = slice_get_within m.functions g.place g.item g.there in
      kind_joins (0 + g.place) (omega (arith, low)) (result_node m (0 + g.place) w.0.result) (result_may_be (0 + g.place) w.0.result) w.0.kind h w.2

  -- ---- roots

  function_roots_are : (origin : Origin) (at : ℕ) (f : Function) → AreNodes m (function_roots m origin at f)
  function_roots_are origin at f x s =
      elim (in_either (by_place (param_root m origin at (is_kernel f) (is_region m f)) 0 f.params) (flat_map (inst_roots m origin at) (insts_of f)) x s) [
        | inl a ↦
            let g = given_at (param_root m origin at (is_kernel f) (is_region m f)) f.params 0 x a in
            let r = root_is (is_given origin (is_kernel f) (is_region m f) (0 + g.place) g.item) (register_node m at g.item.name) x g.given in
            register_may_be at g.item.name x r.1
        | inr b ↦
            let w = within_joined (inst_roots m origin at) (insts_of f) x b in
            let r = root_is (makes origin w.0.kind) (result_node m at w.0.result) x w.2 in
            result_may_be at w.0.result x r.1
      ]

  pub roots_are : (origin : Origin) → AreNodes m (all_roots m origin)
  roots_are origin x s = let g = given_at (function_roots m origin) m.functions 0 x s in function_roots_are origin (0 + g.place) g.item x g.given
