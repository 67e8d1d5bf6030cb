-- When a kernel can run in SPMD mode: six rules, each told with the first line at which it is broken.
use Rattle.std.specs.Prelude.{◌≡◌, ◌⊎◌, ◌≤◌, ◌<◌, ◌↔◌, ℕ, suc, List, true, Option, Some, slice_get}
use Rattle.ir_core.specs.declared.instructions.Typed.{Typed}
use Rattle.ir_core.specs.declared.instructions.Order.{Order}
use Rattle.ir_core.specs.declared.instructions.Kind.TheVariants.{Store}
use Rattle.ir_core.specs.declared.instructions.Inst.{Inst}
use Rattle.ir_core.specs.declared.module.Module.{Module}
use Rattle.ir_core.specs.declared.module.Function.{Function}
use Rattle.ir_core.specs.FirstForm.{is_ptr}
use Rattle.ir_core.specs.Places.{Name, Place, inst_at}
use Rattle.shapes.specs.CallPaths.{IsOnMainSideOf, IsOnRegionSide}
use Rattle.value_facts.specs.Effects.{Accesses, NeedsGuard}
use Rattle.value_facts.specs.Pointers.{register, spot, CallsFunction, MayBeStack}
use Rattle.call_paths.specs.Runs.{ReachesRegion}

-- ---- where a rule is broken

-- the line of an instruction in a function on the kernel's main side, of which this holds
abbrev pub AtInst : Module → ℕ → (Place → Inst → Type 0) → ℕ → Type 0
AtInst m kernel Holds line = (p : Place) × (i : Inst) × IsOnMainSideOf m kernel p.function × (inst_at m p ≡ Some i) × Holds p i × (i.line ≡ line)

-- the line of a function on the kernel's main side that reaches a region, of which this holds
abbrev pub AtFunction : Module → ℕ → (ℕ → Type 0) → ℕ → Type 0
AtFunction m kernel Holds line =
    (at : ℕ) × (f : Function) × IsOnMainSideOf m kernel at × ReachesRegion m at × (slice_get m.functions at ≡ Some f) × Holds at × (f.line ≡ line)

-- the kernel reaches no region
abbrev pub ReachesNone : Module → ℕ → ℕ → Type 0
ReachesNone m kernel line = (f : Function) × (slice_get m.functions kernel ≡ Some f) × (ReachesRegion m kernel → ⊥) × (f.line ≡ line)

-- a pointer that may point into a stack is stored
abbrev pub StoresStack : Module → Place → Inst → Type 0
StoresStack m p i = (v at : Typed) × (order : Option Order) × (align : ℕ) × (i.kind ≡ Store v at order align) × (is_ptr v.ty ≡ true) × MayBeStack m (spot p.function v.value)

-- a guarded access goes through such a pointer
abbrev pub AccessesStack : Module → Place → Inst → Type 0
AccessesStack m p i = (at : Typed) × NeedsGuard m p × Accesses i.kind at × MayBeStack m (spot p.function at.value)

-- it stands on the main side of another kernel
abbrev pub IsShared : Module → ℕ → ℕ → Type 0
IsShared m kernel at = (other : ℕ) × (other ≡ kernel → ⊥) × IsOnMainSideOf m other at

abbrev pub PassesStack : Module → ℕ → List Typed → Type 0
PassesStack m at operands = (place : ℕ) × (v : Typed) × (slice_get operands place ≡ Some v) × MayBeStack m (spot at v.value)

abbrev pub ReturnsStack : Module → ℕ → Option Name → Type 0
ReturnsStack m at result = (x : Name) × (result ≡ Some x) × MayBeStack m (register at x)

-- a guarded call of a function has such a pointer as an argument or as its result
abbrev pub CallsWithStack : Module → Place → Inst → Type 0
CallsWithStack m p i =
    (to : ℕ) × (operands : List Typed) × NeedsGuard m p × CallsFunction m p.function to i operands
    × (PassesStack m p.function operands ⊎ ReturnsStack m p.function i.result)

-- the rule of a number is broken at a line
abbrev pub Breaks : Module → ℕ → ℕ → ℕ → Type 0
Breaks m kernel rule line =
    ((rule ≡ 1) × ReachesNone m kernel line)
    ⊎ ((rule ≡ 2) × AtInst m kernel (StoresStack m) line)
    ⊎ ((rule ≡ 3) × AtInst m kernel (AccessesStack m) line)
    ⊎ ((rule ≡ 4) × AtFunction m kernel (IsShared m kernel) line)
    ⊎ ((rule ≡ 5) × AtInst m kernel (CallsWithStack m) line)
    ⊎ ((rule ≡ 6) × AtFunction m kernel (IsOnRegionSide m) line)

-- ---- what is told

-- no rule is broken
abbrev pub Conditions : Module → ℕ → Type 0
Conditions m kernel = (rule line : ℕ) → Breaks m kernel rule line → ⊥

-- a rule that is broken, with the first line at which it is
pub record Reason : Type 0 where
  pub rule : ℕ
  pub line : ℕ

abbrev pub IsReason : Module → ℕ → Reason → Type 0
IsReason m kernel r = Breaks m kernel r.rule r.line × ((line : ℕ) → Breaks m kernel r.rule line → r.line ≤ line)

abbrev pub IsRising : List Reason → Type 0
IsRising rs = (place : ℕ) (r s : Reason) → slice_get rs place ≡ Some r → slice_get rs (suc place) ≡ Some s → r.rule < s.rule

-- the rules that are broken, by rising numbers
pub record AreReasons (m : Module) (kernel : ℕ) (rs : List Reason) : Type 0 where
  pub rising : IsRising rs
  pub same : (r : Reason) → ((place : ℕ) × (slice_get rs place ≡ Some r)) ↔ IsReason m kernel r
