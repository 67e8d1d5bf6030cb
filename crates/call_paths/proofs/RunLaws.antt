-- The graph of calls and forks, function by function, and what kernels run.
use Rattle.std.proofs.Common.{◌≡◌, ℕ, ◌+◌, ◌<◌, ◌≤◌, List, [], ◌∷◌, length, map, Bool, true, false, Option, None, Some, slice_get, ◌⊎◌, inl, inr, refl, sym, subst, ◌∙◌, arith}
use Rattle.std.specs.List.{flat_map}
use Rattle.std.proofs.lemmas.Bool.{cases_eq}
use Rattle.std.proofs.lemmas.List.{length-map}
use Rattle.std.proofs.lemmas.Option.{slice_get_within}
use Rattle.ir_core.specs.declared.instructions.Inst.{Inst}
use Rattle.ir_core.specs.declared.module.Module.{Module}
use Rattle.ir_core.specs.declared.module.Function.{Function}
use Rattle.ir_core.specs.Places.{Name, function_name, function_place}
use Rattle.ir_tables.proofs.Scans.{place_from-within}
use Rattle.reach.specs.Chains.{Leads}
use Rattle.reach.specs.Marks.{HopsTo}
use Rattle.shapes.specs.CallPaths.{Calls, Forks, IsKernelAt}
use Rattle.shapes.specs.Facts.{insts_of}
use Rattle.shapes.specs.KernelShape.{is_kernel}
use Rattle.call_graph.specs.Graphs.{IsGraphOf, Adds}
use Rattle.shapes.specs.Uses.{fork_names}
use Rattle.call_graph.specs.Targets.{as_list, forked}
use Rattle.call_graph.proofs.ListLaws.{Among, last_is, none_among, within_joined}
use Rattle.call_graph.proofs.SideLaws.{forks_it, is_forked}
use Rattle.call_paths.specs.Known.{IsRowOf}
use Rattle.call_paths.specs.Runs.{CallsOrForks, Runs}
use Rattle.call_paths.proofs.RowLaws.{row_as}

-- ---- the forks of the functions before a place

-- a call, or a fork of a function before this place
abbrev pub HopsBelow : Module → ℕ → ℕ → ℕ → Type 0
HopsBelow m n from to = Calls m from to ⊎ ((from < n) × Forks m from to)

pub no_forks : (m : Module) (nodes : ℕ) (graph : List (List ℕ)) → IsGraphOf (Calls m) nodes graph → IsGraphOf (HopsBelow m 0) nodes graph
no_forks m nodes graph g = record {
  size = g.size;
  same = λ from to. (λ h. inl ((g.same from to).0 h), λ h. elim h [ inl c ↦ (g.same from to).1 c | inr f ↦ let low = f.0 in absurd (omega (arith, low)) ]);
}

pub all_forks : (m : Module) (nodes n : ℕ) (graph : List (List ℕ)) → length m.functions ≤ n → IsGraphOf (HopsBelow m n) nodes graph → IsGraphOf (CallsOrForks m) nodes graph
all_forks m nodes n graph all g = record {
  size = g.size;
  same = λ from to. (
    λ h. elim ((g.same from to).0 h) [ inl c ↦ inl c | inr f ↦ inr f.1 ],
    λ h. (g.same from to).1 (elim h [ inl c ↦ inl c | inr f ↦ inr (let low = slice_get_within m.functions from f.0 f.2 in omega (arith, low, all), f) ]),
  );
}

module _ (m : Module) (at : ℕ) (f : Function) (there : slice_get m.functions at ≡ Some f) (nodes : ℕ) (old new : List (List ℕ)) (g : IsGraphOf (HopsBelow m at) nodes old) where
  abbrev row : List ℕ
  row = flat_map (forked m) (insts_of f)

  abbrev Hops : ℕ → ℕ → Type 0
  Hops from to = HopsTo old from to ⊎ ((from ≡ at) × Among row to)

  later : (from to : ℕ) → HopsBelow m at from to → HopsBelow m (at + 1) from to
  later from to (inl c) = inl c
  later from to (inr f) = inr (omega (arith, f.0), f.1)

  hops_next : (from to : ℕ) → Hops from to → HopsBelow m (at + 1) from to
  hops_next from to (inl o) = later from to ((g.same from to).0 o)
  hops_next from to (inr r) = inr (omega (arith, r.0), let P : ℕ → Type 0 = λ k. Forks m k to in subst P (sym r.0) (forks_it m at f there to r.1))

  of_fork : (from to : ℕ) → (from < at + 1) × Forks m from to → (from ≡ at) ⊎ (from ≡ at → ⊥) → Hops from to
  of_fork from to h (inl e) = inr (e, is_forked m at f there to (let P : ℕ → Type 0 = λ k. Forks m k to in subst P e h.1))
  of_fork from to h (inr other) = inl ((g.same from to).1 (inr (omega (arith, h.0, other), h.1)))

  are_hops : (from to : ℕ) → HopsBelow m (at + 1) from to → Hops from to
  are_hops from to (inl c) = inl ((g.same from to).1 (inl c))
  are_hops from to (inr h) = of_fork from to h (cases_eq from at)

  pub forks_next : Adds at row old new → IsGraphOf (HopsBelow m (at + 1)) nodes new
  forks_next adds = record {
    size = adds.size ∙ g.size;
    same = λ from to. (λ h. hops_next from to ((adds.same from to).0 h), λ h. (adds.same from to).1 (are_hops from to h));
  }

-- ---- what an instruction forks

place_within : (m : Module) (x : Name) (o : Option ℕ) (to : ℕ) → function_place m x ≡ o → Among (as_list o) to → to < length m.functions
place_within m x None to place h = absurd (none_among to h)
place_within m x (Some k) to place h =
    let same = last_is k to h in
    let low = place_from-within 0 k (map function_name m.functions) x place in
    let size = length-map m.functions function_name in
    omega (arith, low, size, same)

-- it is a function of the module
pub forked_within : (m : Module) (i : Inst) (to : ℕ) → to ∷ [] ≡ forked m i → to < length m.functions
forked_within m i to e =
    let P : List ℕ → Type 0 = λ places. Among places to in
    let found = within_joined (λ x. as_list (function_place m x)) (fork_names i) to (subst P e (0, refl)) in
    place_within m found.0 (function_place m found.0) to refl found.2

-- ---- what a kernel runs

module _ (m : Module) (at : ℕ) (f : Function) (there : slice_get m.functions at ≡ Some f) where
  pub kernel_runs : (hops : List (List ℕ)) (row : List Bool) → IsGraphOf (CallsOrForks m) (length m.functions) hops → is_kernel f ≡ true → IsRowOf (Leads (HopsTo hops) at) row → IsRowOf (Runs m at) row
  kernel_runs hops row graph kernel is to =
      let led = row_as (CallsOrForks m) (length m.functions) hops graph at row is to in
      (λ h. ((f, there, kernel), led.0 h), λ h. led.1 h.1)

  no_kernel : is_kernel f ≡ false → IsKernelAt m at → ⊥
  no_kernel not h = let there_too = h.1 in let is = h.2 in let same : h.0 ≡ f = cc in let e : ⊥ = cc in e

  pub other_runs : is_kernel f ≡ false → IsRowOf (Runs m at) []
  other_runs not to = (λ h. let e : ⊥ = cc in absurd e, λ h. absurd (no_kernel not h.0))
