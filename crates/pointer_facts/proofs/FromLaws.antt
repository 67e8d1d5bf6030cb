-- Where pointers come from: each such value has a node, which is a root.
use Rattle.std.proofs.Common.{◌≡◌, ◌⊎◌, ℕ, ◌+◌, ◌<◌, ◌≤◌, List, [], ◌∷◌, ◌++◌, Bool, true, false, ◌&&◌, ◌||◌, not, nat_lt, Option, Some, None, inl, inr, refl, sym, ap, subst, ◌∙◌, slice_get, arith}
use Rattle.std.proofs.lemmas.Bool.Decides.{nat_tests}
use Rattle.std.specs.List.{flat_map}
use Rattle.std.proofs.lemmas.Option.{same_Some}
use Rattle.ir_core.specs.declared.instructions.Value.{Value}
use Rattle.ir_core.specs.declared.instructions.Value.TheVariants.{Null, Local as LocalValue, Global as GlobalValue}
use Rattle.ir_core.specs.declared.instructions.Kind.{Kind}
use Rattle.ir_core.specs.declared.instructions.Kind.TheVariants.{Load, Cast}
use Rattle.ir_core.specs.declared.instructions.Inst.{Inst}
use Rattle.ir_core.specs.declared.module.Module.{Module}
use Rattle.ir_core.specs.declared.module.Function.{Function}
use Rattle.ir_core.specs.declared.module.Param.{Param}
use Rattle.ir_core.specs.declared.rtl.Rtl.TheVariants.{AllocShared}
use Rattle.ir_core.specs.FirstForm.{is_ptr}
use Rattle.ir_core.specs.Places.{Name}
use Rattle.shapes.specs.Facts.{insts_of, calls}
use Rattle.shapes.specs.KernelShape.{is_kernel}
use Rattle.call_graph.proofs.ListLaws.{Among, in_front, behind, among_last, joined_has}
use Rattle.register_hops.specs.declared.nodes.Node.{Node}
use Rattle.register_hops.specs.declared.nodes.Node.TheVariants.{Register, Elsewhere}
use Rattle.register_hops.specs.declared.roots.Origin.{Origin}
use Rattle.register_hops.specs.declared.roots.Origin.TheVariants.{FromStack, FromElsewhere}
use Rattle.register_hops.specs.Nodes.{register_node, value_node, result_node}
use Rattle.register_hops.specs.Roots.{is_region, makes, is_given, inst_roots, param_root, param_roots, all_roots}
use Rattle.register_hops.specs.Numbered.{Stands}
use Rattle.register_hops.proofs.MadeLaws.{makes_root, is_root}
use Rattle.register_hops.proofs.PlacedLaws.{is_given_at}
use Rattle.value_facts.specs.Sides.{IsRegionFunction}
use Rattle.value_facts.specs.Pointers.{Spot, StandsIn, Gives, IsParameter, IsMade, IsLoaded, IsFromStack, IsGivenFromOutside, IsFromElsewhere}
use Rattle.pointer_facts.specs.Exact.{roots_elsewhere}
use Rattle.pointer_facts.proofs.GivenLaws.{IsRegister, node_at, param_has, result_has, result_of, register_node_at}
use Rattle.pointer_facts.proofs.RootLaws.{true_either, true_both, is_region_true}

abbrev pub HasNode : Module → Spot → Type 0
HasNode m s = (x : Node) × (node_at m s ≡ Some x)

allocates : (kind : Kind) → calls AllocShared kind ≡ true → makes FromElsewhere kind ≡ true
allocates (Load ty at order align) e = let f : ⊥ = cc in absurd f
allocates (Cast op from to) e = let f : ⊥ = cc in absurd f
allocates _ e = e

module _ (m : Module) (s : Spot) where
  -- ---- each has a node

  pub has_node : IsRegister m s → HasNode m s
  has_node r = (Register r.2.0, register_node_at m s r.0 r.2.0 r.1 r.2.1)

  pub given_register : (x : Name) (kind : Kind) → Gives m s.function x kind → s.value ≡ LocalValue x → IsRegister m s
  given_register x kind gives is = (x, is, result_has m s.function gives.0 x gives.1 gives.2)

  param_register : (f : Function) (place : ℕ) (p : Param) → IsParameter m s f place p → IsRegister m s
  param_register f place p is = (p.name, is.2, param_has m s.function f place p is.0 is.1)

  pub loaded_register : IsLoaded m s → IsRegister m s
  loaded_register h = given_register h.0 _ h.4 h.5

  pub stack_register : IsFromStack m s → IsRegister m s
  stack_register (inl h) = given_register h.2.0 _ h.2.1 h.2.2
  stack_register (inr h) = param_register h.0 h.1 h.2 h.3

  pub elsewhere_has : IsFromElsewhere m s → HasNode m s
  elsewhere_has (inl h) = has_node (param_register h.0 h.1 h.2 h.3)
  elsewhere_has (inr (inl h)) = has_node (loaded_register h)
  elsewhere_has (inr (inr (inl h))) = has_node (given_register h.2.0 _ h.2.1 h.2.2)
  elsewhere_has (inr (inr (inr (inl h)))) = (Elsewhere, ap (value_node m s.function) h)
  elsewhere_has (inr (inr (inr (inr (inl h))))) = (Elsewhere, ap (value_node m s.function) h.1)
  elsewhere_has (inr (inr (inr (inr (inr h))))) = has_node (h.1, h.5, result_has m s.function h.0 h.1 h.2 h.4)

  -- ---- the node is a root

  module _ (x : Node) (node : node_at m s ≡ Some x) where
    register_is : (y : Name) → s.value ≡ LocalValue y → register_node m s.function y ≡ Some x
    register_is y is = ap (value_node m s.function) (sym is) ∙ node

    param_stands : (origin : Origin) (f : Function) (place : ℕ) (p : Param) → IsParameter m s f place p → is_given origin (is_kernel f) (is_region m f) place p ≡ true → Stands (all_roots m origin) x
    param_stands origin f place p is test =
        let gives = param_root m origin s.function (is_kernel f) (is_region m f) in
        let same : place ≡ 0 + place = omega arith in
        let P : ℕ → Type 0 = λ k. Among (gives k p) x in
        let made = makes_root (is_given origin (is_kernel f) (is_region m f) place p) (register_node m s.function p.name) x test (register_is p.name is.2) in
        let root = is_given_at gives f.params 0 place p x is.1 (subst P same made) in
        is_root m origin x (record {
          at = s.function;
          function = f;
          there = is.0;
          root = in_front (param_roots m origin s.function (is_kernel f) (is_region m f) f.params) (flat_map (inst_roots m origin s.function) (insts_of f)) x root;
        })

    inst_stands : (origin : Origin) (i : Inst) (y : Name) → StandsIn m s.function i → i.result ≡ Some y → s.value ≡ LocalValue y → makes origin i.kind ≡ true → Stands (all_roots m origin) x
    inst_stands origin i y stands gives is test =
        let f = stands.0 in
        let made = makes_root (makes origin i.kind) (result_node m s.function i.result) x test (result_of m s.function i.result y x gives (register_is y is)) in
        let root = joined_has (inst_roots m origin s.function) (insts_of f) i x (stands.1, stands.3) made in
        is_root m origin x (record {
          at = s.function;
          function = f;
          there = stands.2;
          root = behind (param_roots m origin s.function (is_kernel f) (is_region m f) f.params) (flat_map (inst_roots m origin s.function) (insts_of f)) x root;
        })

    made_stands : (origin : Origin) (kind : Kind) (y : Name) → Gives m s.function y kind → s.value ≡ LocalValue y → makes origin kind ≡ true → Stands (all_roots m origin) x
    made_stands origin kind y gives is test = inst_stands origin gives.0 y gives.1 gives.2 is (ap (makes origin) gives.3 ∙ test)

    pub stack_root : IsFromStack m s → Stands (all_roots m FromStack) x
    stack_root (inl h) = made_stands FromStack _ h.2.0 h.2.1 h.2.2 refl
    stack_root (inr h) =
        let low = h.5 in
        param_stands FromStack h.0 h.1 h.2 h.3 (true_both (is_region m h.0) (nat_lt h.1 2) (is_region_true m h.0 h.4) (grind (arith, nat_tests, low)))

    outside : (f : Function) (place : ℕ) → (is_kernel f ≡ true) ⊎ (IsRegionFunction m f × (2 ≤ place)) → (is_kernel f || (is_region m f && not (nat_lt place 2))) ≡ true
    outside f place (inl k) = true_either (is_kernel f) (is_region m f && not (nat_lt place 2)) (inl k)
    outside f place (inr h) =
        let high = h.1 in
        true_either (is_kernel f) (is_region m f && not (nat_lt place 2)) (inr (true_both (is_region m f) (not (nat_lt place 2)) (is_region_true m f h.0) (grind (arith, nat_tests, high))))

    other_root : IsFromElsewhere m s → Stands (all_roots m FromElsewhere) x ⊎ (x ≡ Elsewhere)
    other_root (inl h) =
        inl (param_stands FromElsewhere h.0 h.1 h.2 h.3
        (true_both (is_ptr h.2.ty) (is_kernel h.0 || (is_region m h.0 && not (nat_lt h.1 2))) h.4 (outside h.0 h.1 h.5)))
    other_root (inr (inl h)) = inl (made_stands FromElsewhere _ h.0 h.4 h.5 refl)
    other_root (inr (inr (inl h))) = inl (made_stands FromElsewhere _ h.2.0 h.2.1 h.2.2 refl)
    other_root (inr (inr (inr (inl h)))) = inr (same_Some x Elsewhere (sym node ∙ ap (value_node m s.function) h))
    other_root (inr (inr (inr (inr (inl h))))) = inr (same_Some x Elsewhere (sym node ∙ ap (value_node m s.function) h.1))
    other_root (inr (inr (inr (inr (inr h))))) = inl (inst_stands FromElsewhere h.0 h.1 h.2 h.4 h.5 (allocates h.0.kind h.3))

    pub elsewhere_root : IsFromElsewhere m s → Stands (roots_elsewhere m) x
    elsewhere_root h = elim (other_root h) [
      | inl a ↦ in_front (all_roots m FromElsewhere) (Elsewhere ∷ []) x a
      | inr e ↦ among_last (all_roots m FromElsewhere) Elsewhere x e
    ]
