-- The sides, by the marks of a search, and their roots, function by function.
use Rattle.std.proofs.Common.{◌≡◌, ℕ, ◌+◌, ◌<◌, ◌≤◌, List, [], ◌∷◌, ◌++◌, length, map, Bool, true, false, Some, slice_get, get_or, ◌⊎◌, inl, inr, sym, ap, subst, ◌∙◌, arith}
use Rattle.std.specs.List.{flat_map, All}
use Rattle.std.proofs.lemmas.Bool.{cases_eq}
use Rattle.std.proofs.lemmas.List.{length-map}
use Rattle.std.proofs.lemmas.List.Elements.{All-from_get_or}
use Rattle.std.proofs.lemmas.Option.{slice_get_within, slice_get-get_or}
use Rattle.ir_core.specs.declared.module.Module.{Module}
use Rattle.ir_core.specs.declared.module.Function.{Function}
use Rattle.ir_core.specs.Places.{function_name, function_place}
use Rattle.ir_core.specs.Wrappers.{is_in}
use Rattle.ir_tables.proofs.Scans.{place_from-within}
use Rattle.reach.specs.Chains.{Leads}
use Rattle.reach.specs.Marks.{HopsTo, Marks}
use Rattle.reach.proofs.ChainLaws.{leads_as}
use Rattle.shapes.specs.CallPaths.{Calls, IsKernelAt, IsOnMainSide, IsOnRegionSide, Forks}
use Rattle.shapes.specs.Facts.{insts_of}
use Rattle.shapes.specs.KernelShape.{is_kernel}
use Rattle.shapes.specs.Uses.{fork_names}
use Rattle.call_graph.specs.Graphs.{IsGraphOf, AreMarksOf, ArePlacesOf}
use Rattle.call_graph.specs.Nested.{IsRegionAt}
use Rattle.call_graph.specs.Targets.{forked}
use Rattle.call_graph.proofs.ListLaws.{Among, in_front, behind, in_either, among_last, last_is}
use Rattle.call_graph.proofs.NameLaws.{named, of_named}

-- ---- marks

-- a chain leads from one of the roots
abbrev pub IsLedTo : (ℕ → ℕ → Type 0) → (ℕ → Type 0) → ℕ → Type 0
IsLedTo Hop Root at = (root : ℕ) × Root root × Leads Hop root at

module _ (Hop : ℕ → ℕ → Type 0) (Root : ℕ → Type 0) (nodes : ℕ) (hops : List (List ℕ)) (roots : List ℕ) (graph : IsGraphOf Hop nodes hops) (are : ArePlacesOf Root roots) where
  pub marks_of : (marks : List Bool) → Marks hops roots marks → AreMarksOf (IsLedTo Hop Root) nodes marks
  marks_of marks found = record {
    size = found.size ∙ graph.size;
    same = λ at. (
      λ h. let r = found.reached at h in (r.0, (are r.0).0 (r.1, r.2), leads_as (HopsTo hops) Hop (λ a b. (graph.same a b).0) r.0 at r.3),
      λ h. let k = (are h.0).1 h.1 in found.whole at (h.0, k.0, k.1, leads_as Hop (HopsTo hops) (λ a b. (graph.same a b).1) h.0 at h.2),
    );
  }

  -- the roots are nodes
  pub roots_within : ((root : ℕ) → Root root → root < nodes) → All (λ root. root < length hops) roots
  roots_within low = All-from_get_or (λ root. root < length hops) roots 0 (λ i below. let within = low (get_or roots i 0) ((are (get_or roots i 0)).0 (i, slice_get-get_or roots i 0 below)) in omega (arith, within, graph.size))

pub same_marks : (P Q : ℕ → Type 0) → ((at : ℕ) → P at → Q at) → ((at : ℕ) → Q at → P at) → (nodes : ℕ) (marks : List Bool) → AreMarksOf P nodes marks → AreMarksOf Q nodes marks
same_marks P Q to from nodes marks are = record {
  size = are.size;
  same = λ at. (λ h. to at ((are.same at).0 h), λ h. (are.same at).1 (from at h));
}

mark_read : (P : ℕ → Type 0) (nodes : ℕ) (marks : List Bool) → AreMarksOf P nodes marks → (at : ℕ) (d b : Bool) → at < nodes → get_or marks at d ≡ b → slice_get marks at ≡ Some b
mark_read P nodes marks are at d b low is = slice_get-get_or marks at d (let size = are.size in omega (arith, size, low)) ∙ ap Some is

pub holds_at : (P : ℕ → Type 0) (nodes : ℕ) (marks : List Bool) → AreMarksOf P nodes marks → (at : ℕ) (d : Bool) → at < nodes → get_or marks at d ≡ true → P at
holds_at P nodes marks are at d low on = (are.same at).0 (mark_read P nodes marks are at d true low on)

pub fails_at : (P : ℕ → Type 0) (nodes : ℕ) (marks : List Bool) → AreMarksOf P nodes marks → (at : ℕ) (d : Bool) → at < nodes → get_or marks at d ≡ false → P at → ⊥
fails_at P nodes marks are at d low off h =
    let on = (are.same at).1 h in
    let read = mark_read P nodes marks are at d false low off in
    let e : ⊥ = cc in e

-- ---- kernels

abbrev pub KernelsBelow : Module → ℕ → ℕ → Type 0
KernelsBelow m n at = (at < n) × IsKernelAt m at

pub all_kernels : (m : Module) (n : ℕ) (places : List ℕ) → length m.functions ≤ n → ArePlacesOf (KernelsBelow m n) places → ArePlacesOf (IsKernelAt m) places
all_kernels m n places all are at = (λ h. ((are at).0 h).1, λ h. (are at).1 (let low = slice_get_within m.functions at h.0 h.1 in omega (arith, low, all), h))

pub kernel_within : (m : Module) (at : ℕ) → IsKernelAt m at → at < length m.functions
kernel_within m at h = slice_get_within m.functions at h.0 h.1

module _ (m : Module) (n : ℕ) (f : Function) (there : slice_get m.functions n ≡ Some f) (places : List ℕ) (are : ArePlacesOf (KernelsBelow m n) places) where
  kernel_next : is_kernel f ≡ true → (at : ℕ) → Among places at ⊎ Among (n ∷ []) at → KernelsBelow m (n + 1) at
  kernel_next is at (inl h) = let k = (are at).0 h in (omega (arith, k.0), k.1)
  kernel_next is at (inr h) = let e = last_is n at h in (omega (arith, e), (f, ap (slice_get m.functions) e ∙ there, is))

  kernel_listed : (at : ℕ) → KernelsBelow m (n + 1) at → (at ≡ n) ⊎ (at ≡ n → ⊥) → Among (places ++ n ∷ []) at
  kernel_listed at k (inl e) = among_last places n at e
  kernel_listed at k (inr other) = in_front places (n ∷ []) at ((are at).1 (omega (arith, k.0, other), k.1))

  pub kernels_next : is_kernel f ≡ true → ArePlacesOf (KernelsBelow m (n + 1)) (places ++ n ∷ [])
  kernels_next is at = (λ h. kernel_next is at (in_either places (n ∷ []) at h), λ h. kernel_listed at h (cases_eq at n))

  no_kernel : is_kernel f ≡ false → IsKernelAt m n → ⊥
  no_kernel not h = let there_too = h.1 in let is = h.2 in let same : h.0 ≡ f = cc in let e : ⊥ = cc in e

  kernel_before : is_kernel f ≡ false → (at : ℕ) → KernelsBelow m (n + 1) at → (at ≡ n) ⊎ (at ≡ n → ⊥) → Among places at
  kernel_before not at k (inl e) = absurd (no_kernel not (let P : ℕ → Type 0 = λ j. IsKernelAt m j in subst P e k.1))
  kernel_before not at k (inr other) = (are at).1 (omega (arith, k.0, other), k.1)

  pub kernels_passed : is_kernel f ≡ false → ArePlacesOf (KernelsBelow m (n + 1)) places
  kernels_passed not at = (λ h. let k = (are at).0 h in (omega (arith, k.0), k.1), λ h. kernel_before not at h (cases_eq at n))

-- ---- region functions

abbrev pub RegionsBelow : Module → ℕ → ℕ → Type 0
RegionsBelow m n at = (forking : ℕ) × (forking < n) × IsOnMainSide m forking × Forks m forking at

pub all_regions : (m : Module) (n : ℕ) (places : List ℕ) → length m.functions ≤ n → ArePlacesOf (RegionsBelow m n) places → ArePlacesOf (IsRegionAt m) places
all_regions m n places all are at = (
  λ h. let r = (are at).0 h in (r.0, r.2, r.3),
  λ h. (are at).1 (h.0, let low = slice_get_within m.functions h.0 h.2.0 h.2.2 in omega (arith, low, all), h.1, h.2),
)

module _ (m : Module) (n : ℕ) (f : Function) (there : slice_get m.functions n ≡ Some f) where
  pub forks_it : (to : ℕ) → Among (flat_map (forked m) (insts_of f)) to → Forks m n to
  forks_it to h = let w = named (function_place m) fork_names (insts_of f) to h in (f, w.0, there, w.1, w.2)

  pub is_forked : (to : ℕ) → Forks m n to → Among (flat_map (forked m) (insts_of f)) to
  is_forked to h =
      let there_too = h.2 in
      let same : h.0 ≡ f = cc in
      of_named (function_place m) fork_names (insts_of f) to (h.1, ap (λ (g : Function). is_in (flat_map fork_names (insts_of g)) h.1) (sym same) ∙ h.3, h.4)

  module _ (places : List ℕ) (are : ArePlacesOf (RegionsBelow m n) places) where
    abbrev row : List ℕ
    row = flat_map (forked m) (insts_of f)

    region_later : (at : ℕ) → RegionsBelow m n at → RegionsBelow m (n + 1) at
    region_later at r = (r.0, omega (arith, r.1), r.2, r.3)

    region_next : IsOnMainSide m n → (at : ℕ) → Among places at ⊎ Among row at → RegionsBelow m (n + 1) at
    region_next main at (inl h) = region_later at ((are at).0 h)
    region_next main at (inr h) = (n, omega arith, main, forks_it at h)

    region_listed : (at : ℕ) → (r : RegionsBelow m (n + 1) at) → (r.0 ≡ n) ⊎ (r.0 ≡ n → ⊥) → Among (places ++ row) at
    region_listed at r (inl e) = behind places row at (is_forked at (let P : ℕ → Type 0 = λ j. Forks m j at in subst P e r.3))
    region_listed at r (inr other) = in_front places row at ((are at).1 (r.0, omega (arith, r.1, other), r.2, r.3))

    pub regions_next : IsOnMainSide m n → ArePlacesOf (RegionsBelow m (n + 1)) (places ++ row)
    regions_next main at = (λ h. region_next main at (in_either places row at h), λ h. region_listed at h (cases_eq h.0 n))

    region_before : (IsOnMainSide m n → ⊥) → (at : ℕ) → (r : RegionsBelow m (n + 1) at) → (r.0 ≡ n) ⊎ (r.0 ≡ n → ⊥) → Among places at
    region_before not at r (inl e) = absurd (not (let P : ℕ → Type 0 = λ j. IsOnMainSide m j in subst P e r.2))
    region_before not at r (inr other) = (are at).1 (r.0, omega (arith, r.1, other), r.2, r.3)

    pub regions_passed : (IsOnMainSide m n → ⊥) → ArePlacesOf (RegionsBelow m (n + 1)) places
    regions_passed not at = (λ h. region_later at ((are at).0 h), λ h. region_before not at h (cases_eq h.0 n))

forked_within : (m : Module) (forking at : ℕ) → Forks m forking at → at < length m.functions
forked_within m forking at h =
    let low = place_from-within 0 at (map function_name m.functions) h.1 h.4 in
    let size = length-map m.functions function_name in
    omega (arith, low, size)

-- ---- both sides, where the graph is that of the calls

module _ (m : Module) (hops : List (List ℕ)) (roots given : List ℕ) (graph : IsGraphOf (Calls m) (length m.functions) hops) (same : given ≡ roots) where
  as_given : (Root : ℕ → Type 0) → ArePlacesOf Root roots → ArePlacesOf Root given
  as_given Root are = let P : List ℕ → Type 0 = λ rs. ArePlacesOf Root rs in subst P (sym same) are

  pub main_roots : ArePlacesOf (IsKernelAt m) roots → All (λ root. root < length hops) given
  main_roots are = roots_within (Calls m) (IsKernelAt m) (length m.functions) hops given graph (as_given (IsKernelAt m) are) (kernel_within m)

  pub main_marks : ArePlacesOf (IsKernelAt m) roots → (marks : List Bool) → Marks hops given marks → AreMarksOf (IsOnMainSide m) (length m.functions) marks
  main_marks are marks found =
      same_marks (IsLedTo (Calls m) (IsKernelAt m)) (IsOnMainSide m) (λ at h. (h.0, (h.1, h.2))) (λ at h. (h.0, h.1.0, h.1.1)) (length m.functions) marks
      (marks_of (Calls m) (IsKernelAt m) (length m.functions) hops given graph (as_given (IsKernelAt m) are) marks found)

  pub region_roots : ArePlacesOf (IsRegionAt m) roots → All (λ root. root < length hops) given
  region_roots are = roots_within (Calls m) (IsRegionAt m) (length m.functions) hops given graph (as_given (IsRegionAt m) are) (λ at h. forked_within m h.0 at h.2)

  pub region_marks : ArePlacesOf (IsRegionAt m) roots → (marks : List Bool) → Marks hops given marks → AreMarksOf (IsOnRegionSide m) (length m.functions) marks
  region_marks are marks found =
      same_marks (IsLedTo (Calls m) (IsRegionAt m)) (IsOnRegionSide m) (λ at h. (h.1.0, h.0, h.1.1, h.1.2, h.2)) (λ at h. (h.1, (h.0, h.2, h.3), h.4)) (length m.functions) marks
      (marks_of (Calls m) (IsRegionAt m) (length m.functions) hops given graph (as_given (IsRegionAt m) are) marks found)
