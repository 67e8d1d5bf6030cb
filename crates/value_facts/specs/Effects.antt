-- Which functions have an effect that other threads can see, and which instructions need a guard.
use Rattle.std.specs.Prelude.{◌≡◌, ◌⊎◌, ℕ, List, true, Some}
use Rattle.reach.specs.Chains.{Leads}
use Rattle.ir_core.specs.declared.instructions.Typed.{Typed}
use Rattle.ir_core.specs.declared.instructions.Kind.{Kind}
use Rattle.ir_core.specs.declared.instructions.Kind.TheVariants.{Load, Store, Rmw}
use Rattle.ir_core.specs.declared.instructions.Inst.{Inst}
use Rattle.ir_core.specs.declared.module.Module.{Module}
use Rattle.ir_core.specs.declared.rtl.Rtl.TheVariants.{AllocShared, FreeShared, Print}
use Rattle.ir_core.specs.Places.{Place, inst_at}
use Rattle.shapes.specs.CallPaths.{Calls, IsKernelAt, IsOnMainSide}
use Rattle.shapes.specs.Facts.{is_call_of}
use Rattle.value_facts.specs.Pointers.{spot, StandsIn, CallsFunction, MayBeOther}
use Rattle.call_paths.specs.Runs.{ReachesRegion}

-- a store, or an atomic access, through a pointer
abbrev pub Accesses : Kind → Typed → Type 0
Accesses (Store v at order align) p = at ≡ p
Accesses (Load ty at (Some order) align) p = at ≡ p
Accesses (Rmw op at v order align) p = at ≡ p
Accesses _ p = ⊥

-- such an access of the function at a place, through a pointer that may point elsewhere than into a stack
abbrev pub AccessesOther : Module → ℕ → Inst → Type 0
AccessesOther m at i = (p : Typed) × Accesses i.kind p × MayBeOther m (spot at p.value)

-- a print, an allocation, a release, or such an access
abbrev pub HasEffect : Module → ℕ → Inst → Type 0
HasEffect m at i = (is_call_of Print i ≡ true) ⊎ (is_call_of AllocShared i ≡ true) ⊎ (is_call_of FreeShared i ≡ true) ⊎ AccessesOther m at i

-- a call path from the function at the place comes to an instruction with an effect
abbrev pub SharedEffect : Module → ℕ → Type 0
SharedEffect m at = (to : ℕ) × (i : Inst) × Leads (Calls m) at to × StandsIn m to i × HasEffect m to i

-- a call of a function that has an effect and reaches no region
abbrev pub CallsWithEffect : Module → ℕ → Inst → Type 0
CallsWithEffect m at i = (to : ℕ) × (operands : List Typed) × CallsFunction m at to i operands × SharedEffect m to × (ReachesRegion m to → ⊥)

-- in a kernel, or in a function on a main side that reaches a region
abbrev pub IsGuarded : Module → ℕ → Type 0
IsGuarded m at = IsKernelAt m at ⊎ (IsOnMainSide m at × ReachesRegion m at)

-- the instruction at the place needs a guard
abbrev pub NeedsGuard : Module → Place → Type 0
NeedsGuard m p = (i : Inst) × (inst_at m p ≡ Some i) × IsGuarded m p.function × (HasEffect m p.function i ⊎ CallsWithEffect m p.function i)
