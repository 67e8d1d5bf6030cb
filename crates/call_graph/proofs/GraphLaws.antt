-- The graph of calls, function by function.
use Rattle.std.proofs.Common.{◌≡◌, ℕ, ◌+◌, ◌<◌, ◌≤◌, List, [], ◌∷◌, ◌++◌, length, take, true, false, Some, slice_get, get_or, ◌⊎◌, inl, inr, sym, ap, subst, ◌∙◌, arith}
use Rattle.std.specs.Borrow.{Bor}
use Rattle.std.specs.List.{flat_map}
use Rattle.std.proofs.lemmas.Bool.{cases_eq}
use Rattle.std.proofs.lemmas.List.{append-nil, length-set}
use Rattle.std.proofs.lemmas.Option.{slice_get_within}
use Rattle.ir_core.specs.declared.instructions.Inst.{Inst}
use Rattle.ir_core.specs.declared.module.Module.{Module}
use Rattle.ir_core.specs.declared.module.Function.{Function}
use Rattle.ir_core.specs.Wrappers.{callees, inst_callees, is_in}
use Rattle.reach.specs.Marks.{HopsTo, hop_added}
use Rattle.reach.proofs.Added.{hops_added}
use Rattle.shapes.specs.CallPaths.{Calls}
use Rattle.shapes.specs.Facts.{insts_of}
use Rattle.shapes.specs.Insts.{inst_seen, insts_seen}
use Rattle.call_graph.specs.Graphs.{IsGraphOf, Adds}
use Rattle.call_graph.specs.Targets.{is_on_paths, called, path_place}
use Rattle.call_graph.proofs.ListLaws.{Among, in_front, in_either, among_last, last_is, seen_more}
use Rattle.call_graph.proofs.NameLaws.{named, of_named, callees_are, stands_on, is_on, path_name, of_path_name}

-- ---- hops that are added one by one

module _ (from to : ℕ) (row : List ℕ) (old mid : List (List ℕ)) (low : from < length mid) (adds : Adds from row old mid) where
  abbrev After : ℕ → ℕ → Type 0
  After a b = HopsTo old a b ⊎ ((a ≡ from) × Among (row ++ to ∷ []) b)

  one_hop : (a b : ℕ) → HopsTo mid a b ⊎ ((a ≡ from) × (b ≡ to)) → After a b
  one_hop a b (inl h) = elim ((adds.same a b).0 h) [ inl o ↦ inl o | inr r ↦ inr (r.0, in_front row (to ∷ []) b r.1) ]
  one_hop a b (inr e) = inr (e.0, among_last row to b e.1)

  of_hop : (a b : ℕ) → After a b → HopsTo mid a b ⊎ ((a ≡ from) × (b ≡ to))
  of_hop a b (inl o) = inl ((adds.same a b).1 (inl o))
  of_hop a b (inr r) = elim (in_either row (to ∷ []) b r.1) [ inl h ↦ inl ((adds.same a b).1 (inr (r.0, h))) | inr h ↦ inr (r.0, last_is to b h) ]

  pub adds_one : (new : List (List ℕ)) → new ≡ hop_added mid from to → Adds from (row ++ to ∷ []) old new
  adds_one new e = let P : List (List ℕ) → Type 0 = λ g. Adds from (row ++ to ∷ []) old g in subst P (sym e) (record {
    size = length-set mid from _ ∙ adds.size;
    same = λ a b. (λ h. one_hop a b ((hops_added mid from to low a b).0 h), λ h. (hops_added mid from to low a b).1 (of_hop a b h));
  })

-- the hops to what these instructions give, with one more instruction
module _ (of : Inst → List ℕ) (from : ℕ) (insts : List (Bor Inst)) (n : ℕ) (i : Bor Inst) (low : n < length insts) (is : i ≡ get_or insts n i) (old : List (List ℕ)) where
  abbrev given : ℕ → List ℕ
  given k = flat_map of (insts_seen (take k insts))

  pub given_none : (new : List (List ℕ)) → [] ≡ of (inst_seen i) → Adds from (given n) old new → Adds from (given (n + 1)) old new
  given_none new none a =
      let P : List ℕ → Type 0 = λ r. Adds from r old new in
      subst P (sym (seen_more of insts n i low is ∙ ap (λ r. given n ++ r) (sym none) ∙ append-nil (given n))) a

  pub given_one : (mid new : List (List ℕ)) (to : ℕ) → from < length mid → to ∷ [] ≡ of (inst_seen i) → new ≡ hop_added mid from to → Adds from (given n) old mid → Adds from (given (n + 1)) old new
  given_one mid new to below one e a =
      let P : List ℕ → Type 0 = λ r. Adds from r old new in
      subst P (sym (seen_more of insts n i low is ∙ ap (λ r. given n ++ r) (sym one))) (adds_one from to (given n) old mid below a new e)

-- ---- the calls of the functions before a place

abbrev pub CallsBelow : Module → ℕ → ℕ → ℕ → Type 0
CallsBelow m n from to = (from < n) × Calls m from to

pub all_calls : (m : Module) (nodes n : ℕ) (graph : List (List ℕ)) → length m.functions ≤ n → IsGraphOf (CallsBelow m n) nodes graph → IsGraphOf (Calls m) nodes graph
all_calls m nodes n graph all g = record {
  size = g.size;
  same = λ from to. (λ h. ((g.same from to).0 h).1, λ h. (g.same from to).1 (let low = slice_get_within m.functions from h.0 h.3.0 in omega (arith, low, all), h));
}

module _ (m : Module) (at : ℕ) (f : Function) (there : slice_get m.functions at ≡ Some f) where
  abbrev row : List ℕ
  row = flat_map (called m) (insts_of f)

  calls_it : is_on_paths m f ≡ true → (to : ℕ) → Among row to → Calls m at to
  calls_it on to h =
      let n = named (path_place m) inst_callees (insts_of f) to h in
      let p = path_name m n.0 to n.2 in
      (f, p.0, n.0, stands_on m at f there on, p.1, ap (λ names. is_in names n.0) (callees_are f) ∙ n.1, p.2)

  same_one : (g : Function) → slice_get m.functions at ≡ Some g → g ≡ f
  same_one g h = cc

  is_called : (to : ℕ) → Calls m at to → Among row to
  is_called to c =
      let same = same_one c.0 c.3.0 in
      let within = ap (λ names. is_in names c.2) (sym (callees_are f)) ∙ ap (λ (g : Function). is_in (callees g) c.2) (sym same) ∙ c.5 in
      of_named (path_place m) inst_callees (insts_of f) to (c.2, within, of_path_name m c.2 to (c.1, c.4, c.6))

  calls_none : is_on_paths m f ≡ false → (to : ℕ) → Calls m at to → ⊥
  calls_none off to c =
      let on = ap (is_on_paths m) (sym (same_one c.0 c.3.0)) ∙ is_on m at c.0 c.3 in
      let e : ⊥ = cc in e

  to_next : (from to : ℕ) → CallsBelow m at from to → CallsBelow m (at + 1) from to
  to_next from to c = (omega (arith, c.0), c.1)

  module _ (nodes : ℕ) (old new : List (List ℕ)) (g : IsGraphOf (CallsBelow m at) nodes old) where
    hops_on : is_on_paths m f ≡ true → (from to : ℕ) → HopsTo old from to ⊎ ((from ≡ at) × Among row to) → CallsBelow m (at + 1) from to
    hops_on on from to (inl o) = to_next from to ((g.same from to).0 o)
    hops_on on from to (inr r) = (omega (arith, r.0), let P : ℕ → Type 0 = λ k. Calls m k to in subst P (sym r.0) (calls_it on to r.1))

    are_hops : (from to : ℕ) → CallsBelow m (at + 1) from to → (from ≡ at) ⊎ (from ≡ at → ⊥) → HopsTo old from to ⊎ ((from ≡ at) × Among row to)
    are_hops from to c (inl e) = inr (e, is_called to (let P : ℕ → Type 0 = λ k. Calls m k to in subst P e c.1))
    are_hops from to c (inr other) = inl ((g.same from to).1 (omega (arith, c.0, other), c.1))

    pub calls_next : is_on_paths m f ≡ true → Adds at row old new → IsGraphOf (CallsBelow m (at + 1)) nodes new
    calls_next on adds = record {
      size = adds.size ∙ g.size;
      same = λ from to. (λ h. hops_on on from to ((adds.same from to).0 h), λ h. (adds.same from to).1 (are_hops from to h (cases_eq from at)));
    }

    old_hops : is_on_paths m f ≡ false → (from to : ℕ) → CallsBelow m (at + 1) from to → (from ≡ at) ⊎ (from ≡ at → ⊥) → HopsTo old from to
    old_hops off from to c (inl e) = absurd (calls_none off to (let P : ℕ → Type 0 = λ k. Calls m k to in subst P e c.1))
    old_hops off from to c (inr other) = (g.same from to).1 (omega (arith, c.0, other), c.1)

    pub calls_passed : is_on_paths m f ≡ false → IsGraphOf (CallsBelow m (at + 1)) nodes old
    calls_passed off = record {
      size = g.size;
      same = λ from to. (λ h. to_next from to ((g.same from to).0 h), λ h. old_hops off from to h (cases_eq from at));
    }
