-- Nested forks, function by function.
use Rattle.std.proofs.Common.{◌≡◌, ℕ, zero, ◌+◌, ◌<◌, ◌≤◌, List, [], ◌∷◌, length, Bool, true, false, not, Option, Some, slice_get, ◌⊎◌, inl, inr, refl, sym, ap, subst, ◌∙◌, arith, if◌then◌else◌}
use Rattle.std.specs.List.{flat_map}
use Rattle.std.proofs.lemmas.Bool.{cases_eq}
use Rattle.std.proofs.lemmas.Option.{slice_get_within}
use Rattle.ir_core.specs.declared.instructions.Inst.{Inst}
use Rattle.ir_core.specs.declared.module.Module.{Module}
use Rattle.ir_core.specs.declared.module.Function.{Function}
use Rattle.ir_core.specs.declared.refusal.Construct.TheVariants.{NestedParallel}
use Rattle.ir_core.specs.declared.refusal.Refusal.{Refusal}
use Rattle.ir_core.specs.declared.rtl.Rtl.TheVariants.{Parallel}
use Rattle.ir_core.specs.NameRefusals.{least}
use Rattle.name_tables.specs.Least.{or_first}
use Rattle.shapes.specs.CallPaths.{IsOnRegionSide, IsNested}
use Rattle.shapes.specs.Facts.{insts_of, is_call_of}
use Rattle.shapes.specs.Refusals.{IsAnswer}
use Rattle.call_graph.specs.Nested.{nested_fork}
use Rattle.call_graph.proofs.AnswerLaws.{StandsIn, answer_of_list, answer_either, answer_same}
use Rattle.call_graph.proofs.ListLaws.{Among, none_among, last_is, within_joined, joined_has}

-- ---- what is refused of one instruction

abbrev refused : Inst → Refusal
refused i = record { construct = NestedParallel; line = i.line }

by_call : (i : Inst) (b : Bool) (r : Refusal) → is_call_of Parallel i ≡ b → Among (if not b then [] else refused i ∷ []) r → (is_call_of Parallel i ≡ true) × (r ≡ refused i)
by_call i true r is h = (is, last_is (refused i) r h)
by_call i false r is h = absurd (none_among r h)

fork_of : (i : Inst) (r : Refusal) → Among (nested_fork i) r → (is_call_of Parallel i ≡ true) × (r ≡ refused i)
fork_of i r h = by_call i (is_call_of Parallel i) r refl h

of_fork : (i : Inst) (r : Refusal) → is_call_of Parallel i ≡ true → r ≡ refused i → Among (nested_fork i) r
of_fork i r is e =
    let P : Bool → Type 0 = λ b. Among (if not b then [] else refused i ∷ []) r in
    subst P (sym is) (zero, ap Some (sym e))

-- ---- the functions before a place

abbrev pub NestedBelow : Module → ℕ → Refusal → Type 0
NestedBelow m n r = (nested : IsNested m r) × (nested.at < n)

pub all_nested : (m : Module) (n : ℕ) (a : Option Refusal) → length m.functions ≤ n → IsAnswer (NestedBelow m n) a → IsAnswer (IsNested m) a
all_nested m n a all is =
    answer_same (NestedBelow m n) (IsNested m) (λ r h. h.0)
    (λ r h. (h, let low = slice_get_within m.functions h.at h.function h.there in omega (arith, low, all))) a is

module _ (m : Module) (n : ℕ) (f : Function) (there : slice_get m.functions n ≡ Some f) where
  abbrev here : List Refusal
  here = flat_map nested_fork (insts_of f)

  abbrev nested_here : IsOnRegionSide m n → (r : Refusal) → StandsIn here r → IsNested m r
  nested_here side r h =
      let w = within_joined nested_fork (insts_of f) r h in
      let is = fork_of w.0 r w.2 in
      record { at = n; side = side; function = f; there = there; place = w.1.0; fork = w.0; stands = w.1.1; forks = is.0; refused = is.1 }

  stands_here : (r : Refusal) (q : IsNested m r) → q.at ≡ n → StandsIn here r
  stands_here r q e =
      let there_too = ap (slice_get m.functions) (sym e) ∙ q.there in
      let same : q.function ≡ f = cc in
      let stands = ap (λ (g : Function). slice_get (insts_of g) q.place) (sym same) ∙ q.stands in
      joined_has nested_fork (insts_of f) q.fork r (q.place, stands) (of_fork q.fork r q.forks q.refused)

  lower : n < n + 1
  lower = omega arith

  to_next : IsOnRegionSide m n → (r : Refusal) → NestedBelow m n r ⊎ StandsIn here r → NestedBelow m (n + 1) r
  to_next side r (inl h) = (h.0, omega (arith, h.1))
  to_next side r (inr h) = (nested_here side r h, lower)

  by_place : (r : Refusal) (q : NestedBelow m (n + 1) r) → (q.0.at ≡ n) ⊎ (q.0.at ≡ n → ⊥) → NestedBelow m n r ⊎ StandsIn here r
  by_place r q (inl e) = inr (stands_here r q.0 e)
  by_place r q (inr other) = inl (q.0, omega (arith, q.1, other))

  pub nested_next : IsOnRegionSide m n → (a b : Option Refusal) → IsAnswer (NestedBelow m n) a → b ≡ least here → IsAnswer (NestedBelow m (n + 1)) (or_first a b)
  nested_next side a b is told =
      let P : Option Refusal → Type 0 = λ o. IsAnswer (StandsIn here) o in
      answer_same (λ r. NestedBelow m n r ⊎ StandsIn here r) (NestedBelow m (n + 1)) (to_next side) (λ r q. by_place r q (cases_eq q.0.at n)) (or_first a b)
      (answer_either (NestedBelow m n) (StandsIn here) a b is (subst P (sym told) (answer_of_list here)))

  before : (IsOnRegionSide m n → ⊥) → (r : Refusal) (q : NestedBelow m (n + 1) r) → (q.0.at ≡ n) ⊎ (q.0.at ≡ n → ⊥) → NestedBelow m n r
  before off r q (inl e) = let P : ℕ → Type 0 = λ k. IsOnRegionSide m k in absurd (off (subst P e q.0.side))
  before off r q (inr other) = (q.0, omega (arith, q.1, other))

  pub nested_passed : (IsOnRegionSide m n → ⊥) → (a : Option Refusal) → IsAnswer (NestedBelow m n) a → IsAnswer (NestedBelow m (n + 1)) a
  nested_passed off a is = answer_same (NestedBelow m n) (NestedBelow m (n + 1)) (λ r h. (h.0, omega (arith, h.1))) (λ r q. before off r q (cases_eq q.0.at n)) a is
