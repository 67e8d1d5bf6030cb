-- Layouts where names are looked through deeper.
use Rattle.std.proofs.Common.{◌≡◌, ℕ, zero, suc, ◌+◌, ◌-◌, ◌≤◌, List, [], ◌∷◌, map, Option, Some, None, option_map, refl, sym, ap, ◌∙◌, subst, arith}
use Rattle.std.specs.Prelude.{option_and_then}
use Rattle.std.proofs.lemmas.Option.{none-some}
use Rattle.ir_core.specs.declared.types.Ty.{Ty, fold-Ty, roll-Ty, fold-roll-Ty, ind-Ty, map-Ty}
use Rattle.ir_core.specs.declared.types.Ty.TheOpen.{Ty-F}
use Rattle.ir_core.specs.declared.module.TypeDef.{TypeDef}
use Rattle.ir_core.specs.Layout.{Layout, layer_layout, named_layout, body_of, all_some, array_layout, struct_layout}

abbrev pub layout_by : (List ℕ → Option Layout) → Ty → Option Layout
layout_by named = fold-Ty (Option Layout) (layer_layout named)

-- what one finds the other finds too
abbrev pub Extends : (List ℕ → Option Layout) → (List ℕ → Option Layout) → Type 0
Extends f g = (x : List ℕ) (l : Layout) → f x ≡ Some l → g x ≡ Some l

-- where one has a value the other has it too
abbrev pub Implies : {A : Type 0} → Option A → Option A → Type 0
Implies {A} o p = (a : A) → o ≡ Some a → p ≡ Some a

mapped : (h : Layout → Layout) (o p : Option Layout) → Implies o p → Implies (option_map h o) (option_map h p)
mapped h None p q l e = absurd (none-some l e)
mapped h (Some k) p q l e = ap (option_map h) (q k refl) ∙ e

joined : (o p : Option Layout) (os ps : Option (List Layout)) → Implies o p → Implies os ps →
    Implies (option_and_then (λ l. option_map (λ ls. l ∷ ls) os) o) (option_and_then (λ l. option_map (λ ls. l ∷ ls) ps) p)
joined None p os ps one rest ls e = absurd (none-some ls e)
joined (Some k) p None ps one rest ls e = absurd (none-some ls e)
joined (Some k) p (Some ks) ps one rest ls e = ap (option_and_then (λ l. option_map (λ ls. l ∷ ls) ps)) (one k refl) ∙ ap (option_map (λ ls. k ∷ ls)) (rest ks refl) ∙ e

packed : (o p : Option (List Layout)) → Implies o p → Implies (option_map struct_layout o) (option_map struct_layout p)
packed None p q l e = absurd (none-some l e)
packed (Some k) p q l e = ap (option_map struct_layout) (q k refl) ∙ e

module _ (f g : List ℕ → Option Layout) (more : Extends f g) where
  abbrev IsExtended : Ty → Type 0
  IsExtended t = Implies (layout_by f t) (layout_by g t)

  all_extended : (ts : List ((t : Ty) × IsExtended t)) → Implies (all_some (map (layout_by f) (map (λ e. e.0) ts))) (all_some (map (layout_by g) (map (λ e. e.0) ts)))
  all_extended [] = λ ls e. e
  all_extended (t ∷ ts) = joined (layout_by f t.0) (layout_by g t.0) _ _ t.1 (all_extended ts)

  at_layer : (x : Ty-F Ty) → Implies (layer_layout f (map-Ty Ty (Option Layout) (layout_by f) x)) (layer_layout g (map-Ty Ty (Option Layout) (layout_by g) x)) → IsExtended (roll-Ty x)
  at_layer x h l e = fold-roll-Ty (Option Layout) (layer_layout g) x ∙ h l (sym (fold-roll-Ty (Option Layout) (layer_layout f) x) ∙ e)

  by_layer : (y : Ty-F ((t : Ty) × IsExtended t)) → IsExtended (roll-Ty (map-Ty ((t : Ty) × IsExtended t) Ty (λ e. e.0) y))
  by_layer Ty-F.Void = at_layer Ty-F.Void (λ l e. e)
  by_layer (Ty-F.Int width) = at_layer (Ty-F.Int width) (λ l e. e)
  by_layer Ty-F.Ptr = at_layer Ty-F.Ptr (λ l e. e)
  by_layer (Ty-F.Array n item) = at_layer (Ty-F.Array n item.0) (mapped (array_layout n) (layout_by f item.0) (layout_by g item.0) item.1)
  by_layer (Ty-F.Struct fields) = at_layer (Ty-F.Struct (map (λ e. e.0) fields)) (packed _ _ (all_extended fields))
  by_layer (Ty-F.Named x) = at_layer (Ty-F.Named x) (more x)

  pub extended : (t : Ty) → IsExtended t
  extended = ind-Ty IsExtended (λ x y is. subst (λ z. IsExtended (roll-Ty z)) is (by_layer y))

-- ---- named types

module _ (types : List TypeDef) where
  by_body : (f g : List ℕ → Option Layout) → Extends f g → (o : Option Ty) → Implies (option_and_then (layout_by f) o) (option_and_then (layout_by g) o)
  by_body f g more None = λ l e. e
  by_body f g more (Some t) = extended f g more t

  pub one_deeper : (depth : ℕ) → Extends (named_layout depth types) (named_layout (suc depth) types)
  one_deeper zero x = λ l e. absurd (none-some l e)
  one_deeper (suc depth) x = by_body (named_layout depth types) (named_layout (suc depth) types) (one_deeper depth) (body_of types x)

  pub more_deep : (more depth : ℕ) → Extends (named_layout depth types) (named_layout (more + depth) types)
  more_deep zero depth x l e = let same : depth ≡ 0 + depth = omega arith in subst (λ n. named_layout n types x ≡ Some l) same e
  more_deep (suc more) depth x l e = let same : suc (more + depth) ≡ suc more + depth = omega arith in subst (λ n. named_layout n types x ≡ Some l) same (one_deeper (more + depth) x l (more_deep more depth x l e))

  pub deeper : (low high : ℕ) → low ≤ high → Extends (named_layout low types) (named_layout high types)
  deeper low high h x l e = let same : high - low + low ≡ high = omega arith in subst (λ n. named_layout n types x ≡ Some l) same (more_deep (high - low) low x l e)
