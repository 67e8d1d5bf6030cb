-- The functions that are called and forked by their names.
use Rattle.std.proofs.Common.{◌≡◌, ℕ, zero, suc, List, [], ◌∷◌, Bool, true, false, not, ◌&&◌, Option, Some, None, option_map, option_and_then, map, get_or, slice_get, refl, sym, ap, subst, ◌∙◌, if◌then◌else◌}
use Rattle.std.specs.List.{flat_map}
use Rattle.std.specs.Str.{bytes_eq}
use Rattle.std.proofs.lemmas.Option.{slice_get-map, get_or_from_slice_get}
use Rattle.std.proofs.lemmas.Slice.Eq.{bytes_eq-Decides}
use Rattle.ir_core.specs.declared.instructions.Inst.{Inst}
use Rattle.ir_core.specs.declared.module.Module.{Module}
use Rattle.ir_core.specs.declared.module.Function.{Function}
use Rattle.ir_core.specs.Places.{Name, function_place}
use Rattle.ir_core.specs.Wrappers.{callees, inst_callees, is_in, is_wrapper}
use Rattle.shapes.specs.CallPaths.{IsOnPaths}
use Rattle.shapes.specs.Facts.{insts_of}
use Rattle.shapes.specs.Insts.{block_insts}
use Rattle.shapes.specs.Wrappers.{is_defined}
use Rattle.call_graph.specs.Targets.{is_on_paths, as_list, if_on_paths, path_place}
use Rattle.call_graph.proofs.ListLaws.{Among, none_among, last_is, within_joined, joined_has, fused}

-- ---- a name in a list

one_of : (x y : Name) (ys : List Name) (b : Bool) → bytes_eq x y ≡ b → (is_in ys x ≡ true → Among ys x) → (if b then true else is_in ys x) ≡ true → Among (y ∷ ys) x
one_of x y ys true same rest e = (zero, ap Some (sym ((bytes_eq-Decides x y).0 same)))
one_of x y ys false other rest e = let r = rest e in (suc r.0, r.1)

pub stands_among : (names : List Name) (x : Name) → is_in names x ≡ true → Among names x
stands_among [] x e = let f : ⊥ = cc in absurd f
stands_among (y ∷ ys) x e = one_of x y ys (bytes_eq x y) refl (stands_among ys x) e

or_true : (b c : Bool) → c ≡ true → (if b then true else c) ≡ true
or_true true c e = refl
or_true false c e = e

pub is_among : (names : List Name) (x : Name) → Among names x → is_in names x ≡ true
is_among names x h = at names h.0 h.1 where
  at : (ys : List Name) (k : ℕ) → slice_get ys k ≡ Some x → is_in ys x ≡ true
  at [] k e = let f : ⊥ = cc in absurd f
  at (y ∷ ys) zero e = let same : x ≡ y = cc in ap (λ b. if b then true else is_in ys x) ((bytes_eq-Decides x y).1 same)
  at (y ∷ ys) (suc k) e = or_true (bytes_eq x y) (is_in ys x) (at ys k e)

pub callees_are : (f : Function) → callees f ≡ flat_map inst_callees (insts_of f)
callees_are f = sym (fused inst_callees block_insts f.blocks)

-- ---- the places of names

listed : (o : Option ℕ) (to : ℕ) → Among (as_list o) to → o ≡ Some to
listed None to h = absurd (none_among to h)
listed (Some k) to h = ap Some (sym (last_is k to h))

in_list : (o : Option ℕ) (to : ℕ) → o ≡ Some to → Among (as_list o) to
in_list o to e = let P : Option ℕ → Type 0 = λ p. Among (as_list p) to in subst P (sym e) (zero, refl)

module _ (place : Name → Option ℕ) (names : Inst → List Name) (insts : List Inst) (to : ℕ) where
  abbrev places : Name → List ℕ
  places x = as_list (place x)

  -- one of the names has this place
  abbrev pub Named : Type 0
  Named = (x : Name) × (is_in (flat_map names insts) x ≡ true) × (place x ≡ Some to)

  pub named : Among (flat_map (λ i. flat_map (λ x. as_list (place x)) (names i)) insts) to → Named
  named h =
      let P : List ℕ → Type 0 = λ ns. Among ns to in
      let w = within_joined places (flat_map names insts) to (subst P (sym (fused places names insts)) h) in
      (w.0, is_among (flat_map names insts) w.0 w.1, listed (place w.0) to w.2)

  pub of_named : Named → Among (flat_map (λ i. flat_map (λ x. as_list (place x)) (names i)) insts) to
  of_named h =
      let P : List ℕ → Type 0 = λ ns. Among ns to in
      subst P (fused places names insts) (joined_has places (flat_map names insts) h.0 to (stands_among (flat_map names insts) h.0 h.1) (in_list (place h.0) to h.2))

-- ---- functions on call paths

both_parts : (a b : Bool) → (a && not b) ≡ true → (a ≡ true) × (b ≡ false)
both_parts true true e = let f : ⊥ = cc in absurd f
both_parts true false e = (refl, refl)
both_parts false b e = let f : ⊥ = cc in absurd f

of_parts : (a b : Bool) → a ≡ true → b ≡ false → (a && not b) ≡ true
of_parts true false p q = refl
of_parts true true p q = let f : ⊥ = cc in absurd f
of_parts false b p q = let f : ⊥ = cc in absurd f

pub stands_on : (m : Module) (at : ℕ) (f : Function) → slice_get m.functions at ≡ Some f → is_on_paths m f ≡ true → IsOnPaths m at f
stands_on m at f there on = let parts = both_parts (is_defined f) (is_wrapper m f) on in (there, parts.0, parts.1)

pub is_on : (m : Module) (at : ℕ) (f : Function) → IsOnPaths m at f → is_on_paths m f ≡ true
is_on m at f h = of_parts (is_defined f) (is_wrapper m f) h.1 h.2

-- the name of a function that stands on call paths
abbrev pub IsPathName : Module → Name → ℕ → Type 0
IsPathName m x to = (g : Function) × IsOnPaths m to g × (function_place m x ≡ Some to)

module _ (m : Module) (x : Name) (to : ℕ) where
  by_mark : (k : ℕ) (g : Function) (b : Bool) → function_place m x ≡ Some k → slice_get m.functions k ≡ Some g → is_on_paths m g ≡ b → (if b then Some k else None) ≡ Some to → IsPathName m x to
  by_mark k g true place there on e =
      let same : k ≡ to = cc in
      (g, stands_on m to g (ap (slice_get m.functions) (sym same) ∙ there) on, place ∙ ap Some same)
  by_mark k g false place there on e = let f : ⊥ = cc in absurd f

  by_function : (k : ℕ) (o : Option Function) → function_place m x ≡ Some k → slice_get m.functions k ≡ o → if_on_paths m k o ≡ Some to → IsPathName m x to
  by_function k None place there e = let f : ⊥ = cc in absurd f
  by_function k (Some g) place there e = by_mark k g (is_on_paths m g) place there refl e

  by_place : (o : Option ℕ) → function_place m x ≡ o → option_and_then (λ k. if_on_paths m k (slice_get m.functions k)) o ≡ Some to → IsPathName m x to
  by_place None place e = let f : ⊥ = cc in absurd f
  by_place (Some k) place e = by_function k (slice_get m.functions k) place refl e

  pub path_name : path_place m x ≡ Some to → IsPathName m x to
  path_name e = by_place (function_place m x) refl e

  pub of_path_name : IsPathName m x to → path_place m x ≡ Some to
  of_path_name h =
      ap (option_and_then (λ k. if_on_paths m k (slice_get m.functions k))) h.2
      ∙ ap (if_on_paths m to) h.1.0
      ∙ ap (λ b. if b then Some to else None) (is_on m to h.0 h.1)

-- ---- marks of the functions on call paths

module _ (m : Module) (paths : List Bool) (marks : paths ≡ map (is_on_paths m) m.functions) where
  mark_there : (at : ℕ) → slice_get paths at ≡ option_map (is_on_paths m) (slice_get m.functions at)
  mark_there at = ap (λ ms. slice_get ms at) marks ∙ slice_get-map (is_on_paths m) m.functions at

  pub mark_is : (at : ℕ) (f : Function) (d b : Bool) → slice_get m.functions at ≡ Some f → get_or paths at d ≡ b → is_on_paths m f ≡ b
  mark_is at f d b there read = sym (get_or_from_slice_get paths at (is_on_paths m f) d (mark_there at ∙ ap (option_map (is_on_paths m)) there)) ∙ read
