-- What hops keep: where a property of values is kept by copies and through memory, what is known of a node by it is known of the next one.
use Rattle.std.proofs.Common.{◌≡◌, ◌⊎◌, ℕ, ◌+◌, ◌<◌, List, [], ◌∷◌, Bool, true, false, Option, Some, None, option_and_then, if◌then◌else◌, inl, inr, refl, sym, ap, subst, ◌∙◌, slice_get}
use Rattle.std.proofs.lemmas.Option.{none-some, same_Some}
use Rattle.ir_core.specs.declared.types.Ty.{Ty}
use Rattle.ir_core.specs.declared.types.Ty.TheVariants.{Ptr}
use Rattle.ir_core.specs.declared.instructions.Value.{Value}
use Rattle.ir_core.specs.declared.instructions.Value.TheVariants.{Int as IntValue, Null, Local as LocalValue, Global as GlobalValue}
use Rattle.ir_core.specs.declared.instructions.Typed.{Typed}
use Rattle.ir_core.specs.declared.instructions.Order.{Order}
use Rattle.ir_core.specs.declared.instructions.TailWord.{TailWord}
use Rattle.ir_core.specs.declared.instructions.Kind.{Kind}
use Rattle.ir_core.specs.declared.instructions.Kind.TheVariants.{Select, Phi, Load, Store, Gep, Call, Ret}
use Rattle.ir_core.specs.declared.instructions.Inst.{Inst}
use Rattle.ir_core.specs.declared.module.Module.{Module}
use Rattle.ir_core.specs.declared.module.Function.{Function}
use Rattle.ir_core.specs.FirstForm.{is_ptr}
use Rattle.ir_core.specs.Places.{Name, function_place}
use Rattle.reach.proofs.ChainLaws.{leads_least}
use Rattle.shapes.specs.CallPaths.{IsOnMainSideOf, IsOnRegionSide}
use Rattle.shapes.specs.Wrappers.{is_defined}
use Rattle.call_graph.proofs.ListLaws.{none_among, in_either, last_is, within_joined}
use Rattle.register_hops.specs.declared.hops.Hop.{Hop}
use Rattle.register_hops.specs.declared.nodes.Node.{Node}
use Rattle.register_hops.specs.declared.nodes.Node.TheVariants.{Register, Elsewhere, Returned, Stored, Loaded, Main, Region}
use Rattle.register_hops.specs.Nodes.{register_node, value_node, result_node}
use Rattle.register_hops.specs.Hops.{hop_from, hop, if_defined, defined_place, params_of, operand_hops, hops_of_call, edge_hops, return_hops, kind_hops, all_hops}
use Rattle.register_hops.specs.Numbered.{Stands, HopsOver, IsReachedBy}
use Rattle.register_hops.proofs.MadeLaws.{is_made_by, is_operand_hop}
use Rattle.register_hops.proofs.NodeLaws.{hop_from_is, hop_is}
use Rattle.value_facts.specs.Sides.{ShareSide}
use Rattle.value_facts.specs.Pointers.{Spot, register, spot, StandsIn, Copies, CallsFunction, CopyHop, IsLoaded, MemoryHop}
use Rattle.pointer_facts.specs.Exact.{OfNumber}
use Rattle.pointer_facts.specs.SideHops.{IsOnSide, hops_on, IsSideHop}
use Rattle.pointer_facts.proofs.GivenLaws.{node_at, node_of_number, number_of_node, result_is, same_value}

pub is_ptr_is : (ty : Ty) → is_ptr ty ≡ true → ty ≡ Ptr
is_ptr_is Ptr e = refl
is_ptr_is _ e = let f : ⊥ = cc in absurd f

-- ---- the function that is called

module _ (m : Module) (at to : ℕ) (i : Inst) (stands : StandsIn m at i) (tail_word : TailWord) (ret : Ty) (operands : List Typed) where
  by_test : (x : Name) (k : ℕ) (f : Function) (test : Bool) → i.kind ≡ Call tail_word ret (GlobalValue x) operands → function_place m x ≡ Some k → slice_get m.functions k ≡ Some f
      → is_defined f ≡ test → (if test then Some k else None) ≡ Some to → CallsFunction m at to i operands
  by_test x k f false is named there defined e = absurd (none-some to e)
  by_test x k f true is named there defined e =
      let same = same_Some k to e in
      record {
        stands = stands;
        tail_word = tail_word;
        ret = ret;
        callee = x;
        is = is;
        named = named ∙ ap Some same;
        function = f;
        there = ap (slice_get m.functions) (sym same) ∙ there;
        defined = defined;
      }

  by_function : (x : Name) (k : ℕ) (o : Option Function) → i.kind ≡ Call tail_word ret (GlobalValue x) operands → function_place m x ≡ Some k → slice_get m.functions k ≡ o → if_defined k o ≡ Some to → CallsFunction m at to i operands
  by_function x k None is named there e = absurd (none-some to e)
  by_function x k (Some f) is named there e = by_test x k f (is_defined f) is named there refl e

  by_place : (x : Name) (o : Option ℕ) → i.kind ≡ Call tail_word ret (GlobalValue x) operands → function_place m x ≡ o → option_and_then (λ k. if_defined k (slice_get m.functions k)) o ≡ Some to → CallsFunction m at to i operands
  by_place x None is named e = absurd (none-some to e)
  by_place x (Some k) is named e = by_function x k (slice_get m.functions k) is named refl e

  pub calls_function : (callee : Value) → i.kind ≡ Call tail_word ret callee operands → defined_place m callee ≡ Some to → CallsFunction m at to i operands
  calls_function (GlobalValue x) is e = by_place x (function_place m x) is refl e
  calls_function (IntValue n) is e = absurd (none-some to e)
  calls_function Null is e = absurd (none-some to e)
  calls_function (LocalValue x) is e = absurd (none-some to e)

-- ---- what is known of a node

module _ (m : Module) (May : Spot → Type 0) where
  -- the result of a call of the function at a place
  abbrev pub IsResultOf : ℕ → Spot → Type 0
  IsResultOf from s = (i : Inst) × (operands : List Typed) × CallsFunction m s.function from i operands × (x : Name) × (i.result ≡ Some x) × (s.value ≡ LocalValue x)

  -- each value to which a pointer at the node comes has the property
  abbrev pub IsKnown : Node → Type 0
  IsKnown (Register n) = OfNumber m May n
  IsKnown Elsewhere = (s : Spot) → node_at m s ≡ Some Elsewhere → May s
  IsKnown (Returned f) = (s : Spot) → IsResultOf f s → May s
  IsKnown (Stored f) = (s : Spot) → IsLoaded m s → ShareSide m f s.function → May s
  IsKnown (Loaded f) = (s : Spot) → IsLoaded m s → s.function ≡ f → May s
  IsKnown (Main kernel) = (s : Spot) → IsLoaded m s → IsOnMainSideOf m kernel s.function → May s
  IsKnown Region = (s : Spot) → IsLoaded m s → IsOnRegionSide m s.function → May s

  known_there : (x y : Node) → x ≡ y → IsKnown x → IsKnown y
  known_there x y e h = let P : Node → Type 0 = λ z. IsKnown z in subst P e h

  pub value_may : (at : ℕ) (v : Value) (y : Node) → value_node m at v ≡ Some y → IsKnown y → May (spot at v)
  value_may at (IntValue n) y e h = absurd (none-some y e)
  value_may at Null y e h = known_there y Elsewhere (sym (same_Some Elsewhere y e)) h (spot at Null) refl
  value_may at (GlobalValue x) y e h = known_there y Elsewhere (sym (same_Some Elsewhere y e)) h (spot at (GlobalValue x)) refl
  value_may at (LocalValue x) y e h =
      let r = number_of_node m at x y e in
      let k : OfNumber m May r.0 = known_there y (Register r.0) r.2 h in
      let same = same_value m k.0 k.1 r.0 k.2 at (LocalValue x) (node_of_number m at x r.0 r.1) in
      subst May (sym same) k.3

  pub register_known : (at : ℕ) (x : Name) (y : Node) → register_node m at x ≡ Some y → May (register at x) → IsKnown y
  register_known at x y e h = let r = number_of_node m at x y e in known_there (Register r.0) y (sym r.2) (at, x, r.1, h)

  module _ (copied : (a b : Spot) → CopyHop m a b → May a → May b) (kept : (a b : Spot) → MemoryHop m a b → May a → May b) where
    -- ---- hops of an instruction

    module _ (at : ℕ) (i : Inst) (stands : StandsIn m at i) (h : Hop) (known : IsKnown h.from) where
      abbrev result : Option Node
      result = result_node m at i.result

      copy_known : (kind : Kind) (v : Value) → i.kind ≡ kind → Copies kind v → Stands (hop (value_node m at v) result) h → IsKnown h.to
      copy_known kind v is copies s =
          let ends = hop_is (value_node m at v) result h s in
          let r = result_is m at i.result h.to ends.1 in
          register_known at r.0 h.to r.2 (copied (spot at v) (register at r.0) (inl (r.0, kind, (i, stands, r.1, is), copies, refl)) (value_may at v h.from ends.0 known))

      operand_known : (to : ℕ) (operands : List Typed) (c : CallsFunction m at to i operands) → Stands (operand_hops m at to operands (params_of (slice_get m.functions to))) h → IsKnown h.to
      operand_known to operands c s =
          let o = is_operand_hop m at to operands (params_of (slice_get m.functions to)) h s in
          let ends = hop_is (value_node m at o.operand.value) (register_node m to o.param.name) h o.made in
          let has_param : slice_get c.function.params o.place ≡ Some o.param = ap (λ g. slice_get (params_of g) o.place) (sym c.there) ∙ o.has_param in
          register_known to o.param.name h.to ends.1
          (copied (spot at o.operand.value) (register to o.param.name) (inr (inl (i, operands, c, o.place, o.operand, o.param, o.has_operand, has_param, refl, refl)))
          (value_may at o.operand.value h.from ends.0 known))

      returned_known : (to : ℕ) (operands : List Typed) → CallsFunction m at to i operands → Stands (hop_from (Returned to) result) h → IsKnown h.to
      returned_known to operands c s =
          let ends = hop_from_is (Returned to) result h s in
          let r = result_is m at i.result h.to ends.1 in
          register_known at r.0 h.to r.2 (known_there h.from (Returned to) (sym ends.0) known (register at r.0) (i, operands, c, r.0, r.1, refl))

      call_known : (tail_word : TailWord) (ret : Ty) (callee : Value) (operands : List Typed) → i.kind ≡ Call tail_word ret callee operands → (o : Option ℕ) → defined_place m callee ≡ o
          → Stands (hops_of_call m at result operands o) h → IsKnown h.to
      call_known tail_word ret callee operands is None found s = absurd (none_among h s)
      call_known tail_word ret callee operands is (Some to) found s =
          let c = calls_function m at to i stands tail_word ret operands callee is found in
          elim (in_either (operand_hops m at to operands (params_of (slice_get m.functions to))) (hop_from (Returned to) result) h s) [
            | inl a ↦ operand_known to operands c a
            | inr b ↦ returned_known to operands c b
          ]

      store_known : (v p : Typed) (order : Option Order) (align : ℕ) → i.kind ≡ Store v p order align → (test : Bool) → is_ptr v.ty ≡ test
          → Stands (if test then hop (value_node m at v.value) (Some (Stored at)) else []) h → IsKnown h.to
      store_known v p order align is false pointer s = absurd (none_among h s)
      store_known v p order align is true pointer s =
          let ends = hop_is (value_node m at v.value) (Some (Stored at)) h s in
          let from = value_may at v.value h.from ends.0 known in
          known_there (Stored at) h.to (same_Some (Stored at) h.to ends.1)
          (λ t loaded share. kept (spot at v.value) t ((i, v, p, order, align, stands, is, pointer, refl), loaded, share) from)

      load_known : (ty : Ty) (p : Typed) (order : Option Order) (align : ℕ) → i.kind ≡ Load ty p order align → (test : Bool) → is_ptr ty ≡ test
          → Stands (if test then hop_from (Loaded at) result else []) h → IsKnown h.to
      load_known ty p order align is false pointer s = absurd (none_among h s)
      load_known ty p order align is true pointer s =
          let ends = hop_from_is (Loaded at) result h s in
          let r = result_is m at i.result h.to ends.1 in
          let loads : i.kind ≡ Load Ptr p order align = is ∙ ap (λ t. Load t p order align) (is_ptr_is ty pointer) in
          register_known at r.0 h.to r.2 (known_there h.from (Loaded at) (sym ends.0) known (register at r.0) (r.0, p, order, align, (i, stands, r.1, loads), refl) refl)

      return_known : (o : Option Typed) → i.kind ≡ Ret o → Stands (return_hops m at o) h → IsKnown h.to
      return_known None is s = absurd (none_among h s)
      return_known (Some v) is s =
          let ends = hop_is (value_node m at v.value) (Some (Returned at)) h s in
          let from = value_may at v.value h.from ends.0 known in
          known_there (Returned at) h.to (same_Some (Returned at) h.to ends.1)
          (λ t call. copied (spot at v.value) t (inr (inr (call.0, i, call.1, call.2, call.3, v, call.4, call.5, stands, is, refl))) from)

      kind_known : (kind : Kind) → i.kind ≡ kind → Stands (kind_hops m at result kind) h → IsKnown h.to
      kind_known (Gep inbounds ty base path) is s = copy_known (Gep inbounds ty base path) base.value is refl s
      kind_known (Select c a b) is s =
          elim (in_either (hop (value_node m at a.value) result) (hop (value_node m at b.value) result) h s) [
            | inl p ↦ copy_known (Select c a b) a.value is (inl refl) p
            | inr q ↦ copy_known (Select c a b) b.value is (inr refl) q
          ]
      kind_known (Phi ty edges) is s =
          let w = within_joined (edge_hops m at result) edges h s in
          copy_known (Phi ty edges) w.0.value is (w.1.0, w.0, w.1.1, refl) w.2
      kind_known (Call tail_word ret callee operands) is s = call_known tail_word ret callee operands is (defined_place m callee) refl s
      kind_known (Store v p order align) is s = store_known v p order align is (is_ptr v.ty) refl s
      kind_known (Load ty p order align) is s = load_known ty p order align is (is_ptr ty) refl s
      kind_known (Ret v) is s = return_known v is s
      kind_known _ is s = absurd (none_among h s)

    made_known : (h : Hop) → Stands (all_hops m) h → IsKnown h.from → IsKnown h.to
    made_known h s known =
        let r = is_made_by m h s in
        kind_known r.at r.inst (r.function, r.stands.0, r.there, r.stands.1) h known r.inst.kind refl r.made

    -- ---- hops of a side

    abbrev Keeps : Hop → Type 0
    Keeps h = IsKnown h.from → IsKnown h.to

    one_of_two : (a b h : Hop) → Stands (a ∷ b ∷ []) h → Keeps a → Keeps b → Keeps h
    one_of_two a b h s p q =
        let P : Hop → Type 0 = λ k. Keeps k in
        elim (in_either (a ∷ []) (b ∷ []) h s) [ inl c ↦ subst P (sym (last_is a h c)) p | inr d ↦ subst P (sym (last_is b h d)) q ]

    side_known : (side : Node) (at : ℕ) (h : Hop) → IsOnSide m side at → Stands (hops_on side at) h → Keeps h
    side_known (Main k) at h on s =
        one_of_two (record { from = Stored at; to = Main k }) (record { from = Main k; to = Loaded at }) h s
        (λ known t loaded there. known t loaded (inl (k, on, there)))
        (λ known t loaded same. known t loaded (subst (λ f. IsOnMainSideOf m k f) (sym same) on))
    side_known Region at h on s =
        one_of_two (record { from = Stored at; to = Region }) (record { from = Region; to = Loaded at }) h s
        (λ known t loaded there. known t loaded (inr (on, there)))
        (λ known t loaded same. known t loaded (subst (λ f. IsOnRegionSide m f) (sym same) on))
    side_known _ at h on s = absurd on

    -- a hop of an instruction or of a side keeps what is known
    pub hop_known : (h : Hop) → Stands (all_hops m) h ⊎ IsSideHop m h → IsKnown h.from → IsKnown h.to
    hop_known h (inl s) = made_known h s
    hop_known h (inr (inl k)) = let r = k.2 in side_known (Main k.0) r.0 h r.2.0 r.2.1
    hop_known h (inr (inr r)) = side_known Region r.0 h r.2.0 r.2.1

    pub reached_known : (hops : List Hop) (roots : List Node) → ((h : Hop) → Stands hops h → Stands (all_hops m) h ⊎ IsSideHop m h) → ((x : Node) → Stands roots x → IsKnown x)
        → (x : Node) → IsReachedBy hops roots x → IsKnown x
    reached_known hops roots are known x r = leads_least (HopsOver hops) IsKnown next r.0 x (known r.0 r.1) r.2 where
      next : (a b : Node) → IsKnown a → HopsOver hops a b → IsKnown b
      next a b k hop = known_there hop.0.to b hop.3 (hop_known hop.0 (are hop.0 hop.1) (known_there a hop.0.from (sym hop.2) k))
