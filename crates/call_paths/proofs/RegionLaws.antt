-- Functions with forks, and functions that reach one.
use Rattle.std.proofs.Common.{◌≡◌, ◌↔◌, ℕ, ◌<◌, List, [], ◌∷◌, length, Bool, true, Some, slice_get, sym, ap, subst, ◌∙◌}
use Rattle.std.specs.List.{list_any}
use Rattle.std.proofs.lemmas.Option.{slice_get_within}
use Rattle.ir_core.specs.declared.module.Module.{Module}
use Rattle.ir_core.specs.declared.module.Function.{Function}
use Rattle.ir_core.specs.declared.rtl.Rtl.TheVariants.{Parallel}
use Rattle.reach.specs.Chains.{Chain}
use Rattle.shapes.specs.CallPaths.{Calls}
use Rattle.shapes.specs.Facts.{insts_of, is_call_of}
use Rattle.call_paths.specs.Known.{IsRowOf, AreRowsOf}
use Rattle.call_paths.specs.Rows.{ShareMark}
use Rattle.call_paths.specs.Runs.{HasFork, Reaches, ReachesRegion}

pub fork_within : (m : Module) (at : ℕ) → HasFork m at → at < length m.functions
fork_within m at h = slice_get_within m.functions at h.0 h.1

-- the mark of the function at this place
pub fork_mark : (m : Module) (at : ℕ) (f : Function) (mark : Bool) → slice_get m.functions at ≡ Some f → mark ≡ list_any (is_call_of Parallel) (insts_of f) → (mark ≡ true) ↔ HasFork m at
fork_mark m at f mark there is = (
  λ e. (f, there, sym is ∙ e),
  λ h. let there_too = h.1 in let same : h.0 ≡ f = cc in is ∙ ap (λ (g : Function). list_any (is_call_of Parallel) (insts_of g)) (sym same) ∙ h.2,
)

-- a function that reaches a region is one of the module
pub reaching_within : (m : Module) (at : ℕ) → ReachesRegion m at → at < length m.functions
reaching_within m at h = first at h.1.0 h.1.1 where
  first : (at : ℕ) (through : List ℕ) → Chain (Calls m) at through h.0 → at < length m.functions
  first at [] c = let P : ℕ → Type 0 = λ k. k < length m.functions in subst P (sym c) (fork_within m h.0 h.2)
  first at (z ∷ zs) c = slice_get_within m.functions at c.0.0 c.0.3.0

-- it is one whose row shares a mark with that of the forks
pub reaching_mark : (m : Module) (places at : ℕ) (rows : List (List Bool)) (row forking : List Bool) (mark : Bool) → AreRowsOf (Reaches m) places rows → slice_get rows at ≡ Some row → IsRowOf (HasFork m) forking → (mark ≡ true) ↔ ShareMark row forking → (mark ≡ true) ↔ ReachesRegion m at
reaching_mark m places at rows row forking mark are there forks is = (
  λ e. let h = is.0 e in (h.0, (are.same at row there h.0).0 h.1, (forks h.0).0 h.2),
  λ h. is.1 (h.0, (are.same at row there h.0).1 h.1, (forks h.0).1 h.2),
)
