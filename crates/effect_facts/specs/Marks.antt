-- What is kept of a module's effects: rows of marks over the places of its functions; and what they are made from.
use Rattle.std.specs.Prelude.{◌≡◌, ℕ, List, Bool, true, Option, None, Some, slice_get}
use Rattle.ir_core.specs.declared.instructions.Typed.{Typed}
use Rattle.ir_core.specs.declared.instructions.Kind.{Kind}
use Rattle.ir_core.specs.declared.instructions.Kind.TheVariants.{Load, Store, Rmw, Call}
use Rattle.ir_core.specs.declared.instructions.Inst.{Inst}
use Rattle.ir_core.specs.declared.module.Module.{Module}
use Rattle.call_paths.specs.Known.{IsRowOf}
use Rattle.call_paths.specs.Runs.{Reaches, ReachesRegion}
use Rattle.register_hops.specs.Hops.{defined_place}
use Rattle.value_facts.specs.Effects.{HasEffect, SharedEffect, IsGuarded}
use Rattle.value_facts.specs.Pointers.{StandsIn}

-- the pointer of a store, or of an atomic access
abbrev pub accessed : Kind → Option Typed
accessed (Store v at order align) = Some at
accessed (Load ty at (Some order) align) = Some at
accessed (Rmw op at v order align) = Some at
accessed _ = None

-- the place of the defined function that an instruction calls
abbrev pub called_place : Module → Kind → Option ℕ
called_place m (Call tail_word ret callee operands) = defined_place m callee
called_place m _ = None

-- one of the instructions, of the function at a place, has an effect
abbrev pub OneHasEffect : Module → ℕ → List Inst → Type 0
OneHasEffect m at insts = (i : Inst) × (place : ℕ) × (slice_get insts place ≡ Some i) × HasEffect m at i

-- the function at the place has itself an instruction with an effect
abbrev pub HasOwnEffect : Module → ℕ → Type 0
HasOwnEffect m at = (i : Inst) × StandsIn m at i × HasEffect m at i

-- a call path leads from the function at the place to one with a mark
abbrev pub ReachesMark : Module → List Bool → ℕ → Type 0
ReachesMark m row at = (to : ℕ) × Reaches m at to × (slice_get row to ≡ Some true)

-- the function at the place has an effect and reaches no region
abbrev pub HasEffectAlone : Module → ℕ → Type 0
HasEffectAlone m at = SharedEffect m at × (ReachesRegion m at → ⊥)

-- the instruction calls a function with a mark
abbrev pub CallsMarked : Module → List Bool → Inst → Type 0
CallsMarked m row i = (to : ℕ) × (called_place m i.kind ≡ Some to) × (slice_get row to ≡ Some true)

-- the rows are those of the module
pub record AreMarks (m : Module) (effects alone guarded : List Bool) : Type 0 where
  pub effects_row : IsRowOf (λ at. SharedEffect m at) effects
  pub alone_row : IsRowOf (HasEffectAlone m) alone
  pub guarded_row : IsRowOf (IsGuarded m) guarded
