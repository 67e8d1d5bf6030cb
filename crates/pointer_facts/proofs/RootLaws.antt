-- The roots of both searches are the registers where pointers come from.
use Rattle.std.proofs.Common.{◌≡◌, ◌⊎◌, ◌↔◌, ℕ, ◌+◌, ◌<◌, ◌≤◌, List, [], ◌∷◌, ◌++◌, Bool, true, false, ◌&&◌, ◌||◌, not, nat_lt, Option, Some, None, inl, inr, refl, sym, ap, subst, ◌∙◌, slice_get, arith, if◌then◌else◌}
use Rattle.std.proofs.lemmas.Bool.Decides.{nat_tests}
use Rattle.std.specs.List.{flat_map}
use Rattle.std.proofs.lemmas.Option.{none-some, same_Some}
use Rattle.ir_core.specs.declared.types.Ty.{Ty}
use Rattle.ir_core.specs.declared.types.Ty.TheVariants.{Ptr}
use Rattle.ir_core.specs.declared.instructions.Value.{Value}
use Rattle.ir_core.specs.declared.instructions.Value.TheVariants.{Int as IntValue, Null, Local as LocalValue, Global as GlobalValue}
use Rattle.ir_core.specs.declared.instructions.Typed.{Typed}
use Rattle.ir_core.specs.declared.instructions.CastOp.{CastOp}
use Rattle.ir_core.specs.declared.instructions.CastOp.TheVariants.{IntToPtr}
use Rattle.ir_core.specs.declared.instructions.Kind.{Kind}
use Rattle.ir_core.specs.declared.instructions.Kind.TheVariants.{Alloca, Load, Cast}
use Rattle.ir_core.specs.declared.instructions.Inst.{Inst}
use Rattle.ir_core.specs.declared.module.Module.{Module}
use Rattle.ir_core.specs.declared.module.Function.{Function}
use Rattle.ir_core.specs.declared.module.Param.{Param}
use Rattle.ir_core.specs.declared.rtl.Rtl.TheVariants.{AllocShared}
use Rattle.ir_core.specs.FirstForm.{is_ptr}
use Rattle.ir_core.specs.Places.{Name}
use Rattle.ir_core.specs.Wrappers.{is_in, callees, is_wrapper}
use Rattle.shapes.specs.Facts.{insts_of, calls, is_call_of}
use Rattle.shapes.specs.KernelShape.{is_kernel}
use Rattle.shapes.specs.Uses.{names_forked}
use Rattle.call_graph.proofs.ListLaws.{Among, none_among, in_front, behind, in_either, within_joined, joined_has}
use Rattle.call_graph.proofs.NameLaws.{is_among, stands_among}
use Rattle.register_hops.specs.declared.nodes.Node.{Node}
use Rattle.register_hops.specs.declared.roots.Origin.{Origin}
use Rattle.register_hops.specs.declared.roots.Origin.TheVariants.{FromStack, FromElsewhere}
use Rattle.register_hops.specs.Nodes.{register_node, result_node}
use Rattle.register_hops.specs.Roots.{callees_if_wrapper, called_by_wrappers, is_region, makes_address, makes, is_given, inst_roots, param_root, param_roots, all_roots}
use Rattle.register_hops.specs.Numbered.{Stands}
use Rattle.register_hops.proofs.MadeLaws.{makes_root, has_root, is_root}
use Rattle.register_hops.proofs.NodeLaws.{root_is}
use Rattle.register_hops.proofs.PlacedLaws.{given_at, is_given_at}
use Rattle.value_facts.specs.Sides.{IsCalledByWrapper, IsRegionFunction}
use Rattle.value_facts.specs.Pointers.{Spot, register, StandsIn, IsParameter, IsMade, IsFromStack, IsGivenFromOutside, IsAllocated, IsFromElsewhere}
use Rattle.pointer_facts.proofs.GivenLaws.{IsRegister, node_at, param_has, result_has, result_is, node_of_number}
use Rattle.pointer_facts.proofs.KnownLaws.{is_ptr_is}

-- ---- tests

either_true : (a b : Bool) → (a || b) ≡ true → (a ≡ true) ⊎ (b ≡ true)
either_true true b e = inl refl
either_true false b e = inr e

pub true_either : (a b : Bool) → (a ≡ true) ⊎ (b ≡ true) → (a || b) ≡ true
true_either true b h = refl
true_either false b (inl e) = let f : ⊥ = cc in absurd f
true_either false b (inr e) = e

both_true : (a b : Bool) → (a && b) ≡ true → (a ≡ true) × (b ≡ true)
both_true true b e = (refl, e)
both_true false b e = let f : ⊥ = cc in absurd f

pub true_both : (a b : Bool) → a ≡ true → b ≡ true → (a && b) ≡ true
true_both true b p q = q
true_both false b p q = let f : ⊥ = cc in absurd f

-- ---- region functions

called_by_test : (x : Name) (fs : List Name) (test : Bool) → Among (if test then fs else []) x → (test ≡ true) × Among fs x
called_by_test x fs true h = (refl, h)
called_by_test x fs false h = absurd (none_among x h)

by_wrapper : (m : Module) (x : Name) → is_in (called_by_wrappers m) x ≡ true → IsCalledByWrapper m x
by_wrapper m x e =
    let w = within_joined (callees_if_wrapper m) m.functions x (stands_among (called_by_wrappers m) x e) in
    let r = called_by_test x (callees w.0) (is_wrapper m w.0) w.2 in
    (w.1.0, w.0, w.1.1, r.0, is_among (callees w.0) x r.1)

in_wrapper : (m : Module) (x : Name) → IsCalledByWrapper m x → is_in (called_by_wrappers m) x ≡ true
in_wrapper m x h =
    let P : Bool → Type 0 = λ b. Among (if b then callees h.1 else []) x in
    is_among (called_by_wrappers m) x (joined_has (callees_if_wrapper m) m.functions h.1 x (h.0, h.2) (subst P (sym h.3) (stands_among (callees h.1) x h.4)))

module _ (m : Module) (f : Function) where
  region_is : is_region m f ≡ true → IsRegionFunction m f
  region_is e = elim (either_true (is_in (names_forked m) f.name) (is_in (called_by_wrappers m) f.name) e) [ inl a ↦ inl a | inr b ↦ inr (by_wrapper m f.name b) ]

  pub is_region_true : IsRegionFunction m f → is_region m f ≡ true
  is_region_true (inl a) = true_either (is_in (names_forked m) f.name) (is_in (called_by_wrappers m) f.name) (inl a)
  is_region_true (inr b) = true_either (is_in (names_forked m) f.name) (is_in (called_by_wrappers m) f.name) (inr (in_wrapper m f.name b))

-- ---- what comes from an origin

abbrev pub IsFrom : Module → Origin → Spot → Type 0
IsFrom m FromStack s = IsFromStack m s
IsFrom m FromElsewhere s = IsFromElsewhere m s

module _ (m : Module) where
  -- a parameter
  given_from : (origin : Origin) (s : Spot) (f : Function) (place : ℕ) (p : Param) → IsParameter m s f place p → is_given origin (is_kernel f) (is_region m f) place p ≡ true → IsFrom m origin s
  given_from FromStack s f place p is e =
      let both = both_true (is_region m f) (nat_lt place 2) e in
      let low = both.1 in
      inr (f, place, p, is, region_is m f both.0, grind (arith, nat_tests, low))
  given_from FromElsewhere s f place p is e =
      let both = both_true (is_ptr p.ty) (is_kernel f || (is_region m f && not (nat_lt place 2))) e in
      inl (
        f,
        place,
        p,
        is,
        both.0,
        elim (either_true (is_kernel f) (is_region m f && not (nat_lt place 2)) both.1) [
          | inl kernel ↦ inl kernel
          | inr other ↦
              let parts = both_true (is_region m f) (not (nat_lt place 2)) other in
              let high = parts.1 in
              inr (region_is m f parts.0, grind (arith, nat_tests, high))
        ],
      )

  is_address : (op : CastOp) → makes_address op ≡ true → op ≡ IntToPtr
  is_address IntToPtr e = refl
  is_address _ e = let f : ⊥ = cc in absurd f

  module _ (s : Spot) (i : Inst) (x : Name) (stands : StandsIn m s.function i) (gives : i.result ≡ Some x) (is : s.value ≡ LocalValue x) where
    stack_made : (kind : Kind) → i.kind ≡ kind → makes FromStack kind ≡ true → IsFromStack m s
    stack_made (Alloca ty align) same e = inl (ty, align, (x, (i, stands, gives, same), is))
    stack_made _ same e = let f : ⊥ = cc in absurd f

    other_made : (kind : Kind) → i.kind ≡ kind → makes FromElsewhere kind ≡ true → IsFromElsewhere m s
    other_made (Load ty at order align) same e = inr (inl (x, at, order, align, (i, stands, gives, same ∙ ap (λ t. Load t at order align) (is_ptr_is ty e)), is))
    other_made (Cast op from to) same e = inr (inr (inl (from, to, (x, (i, stands, gives, same ∙ ap (λ o. Cast o from to) (is_address op e)), is))))
    other_made _ same e = inr (inr (inr (inr (inr (i, x, stands, ap (calls AllocShared) same ∙ e, gives, is)))))

    made_from : (origin : Origin) → makes origin i.kind ≡ true → IsFrom m origin s
    made_from FromStack e = stack_made i.kind refl e
    made_from FromElsewhere e = other_made i.kind refl e

  -- a root is the node of a register where pointers of the origin come from
  pub record ComesFrom (origin : Origin) (x : Node) : Type 0 where
    pub at : ℕ
    pub name : Name
    pub node : register_node m at name ≡ Some x
    pub from : IsFrom m origin (register at name)

  pub root_from : (origin : Origin) (x : Node) → Stands (all_roots m origin) x → ComesFrom origin x
  root_from origin x s =
      let r = has_root m origin x s in
      let f = r.function in
      elim (in_either (param_roots m origin r.at (is_kernel f) (is_region m f) f.params) (flat_map (inst_roots m origin r.at) (insts_of f)) x r.root) [
        | inl a ↦ from_param r.at f r.there a
        | inr b ↦ from_inst r.at f r.there b
      ]
    where
      from_param : (at : ℕ) (f : Function) → slice_get m.functions at ≡ Some f → Stands (param_roots m origin at (is_kernel f) (is_region m f) f.params) x → ComesFrom origin x
      from_param at f there a =
          let g = given_at (param_root m origin at (is_kernel f) (is_region m f)) f.params 0 x a in
          let same : 0 + g.place ≡ g.place = omega arith in
          let P : ℕ → Type 0 = λ k. Among (param_root m origin at (is_kernel f) (is_region m f) k g.item) x in
          let e = root_is (is_given origin (is_kernel f) (is_region m f) g.place g.item) (register_node m at g.item.name) x (subst P same g.given) in
          record { at = at; name = g.item.name; node = e.1; from = given_from origin (register at g.item.name) f g.place g.item (there, g.there, refl) e.0 }

      from_inst : (at : ℕ) (f : Function) → slice_get m.functions at ≡ Some f → Stands (flat_map (inst_roots m origin at) (insts_of f)) x → ComesFrom origin x
      from_inst at f there b =
          let w = within_joined (inst_roots m origin at) (insts_of f) x b in
          let e = root_is (makes origin w.0.kind) (result_node m at w.0.result) x w.2 in
          let r = result_is m at w.0.result x e.1 in
          record { at = at; name = r.0; node = r.2; from = made_from (register at r.0) w.0 r.0 (f, w.1.0, there, w.1.1) r.1 refl origin e.0 }
