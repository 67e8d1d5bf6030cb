-- What each rule asks of an instruction or of a function.
use Rattle.std.specs.Prelude.{◌≡◌, ℕ, Some, slice_get}
use Rattle.ir_core.specs.declared.instructions.Inst.{Inst}
use Rattle.ir_core.specs.declared.module.Module.{Module}
use Rattle.ir_core.specs.declared.module.Function.{Function}
use Rattle.ir_core.specs.Places.{Place, inst_at}
use Rattle.shapes.specs.CallPaths.{IsOnMainSideOf, IsOnRegionSide}
use Rattle.call_paths.specs.Runs.{ReachesRegion}
use Rattle.spmd_rules.specs.Rules as rules
use Rattle.spmd_judge.specs.declared.insts.InstRule.{InstRule}
use Rattle.spmd_judge.specs.declared.insts.InstRule.TheVariants.{StackStored, StackAccessed, StackPassed}
use Rattle.spmd_judge.specs.declared.functions.FunctionRule.{FunctionRule}
use Rattle.spmd_judge.specs.declared.functions.FunctionRule.TheVariants.{Shared, InRegion}

-- ---- instructions

-- the instruction at the place breaks the rule
abbrev pub BreaksInst : InstRule → Module → Place → Inst → Type 0
BreaksInst StackStored m p i = rules.StoresStack m p i
BreaksInst StackAccessed m p i = rules.AccessesStack m p i
BreaksInst StackPassed m p i = rules.CallsWithStack m p i

-- it does so on the line
abbrev pub BreaksAt : Module → InstRule → Place → ℕ → Type 0
BreaksAt m rule p line = (i : Inst) × (inst_at m p ≡ Some i) × BreaksInst rule m p i × (i.line ≡ line)

-- the places of a function, of a block in it and of an instruction in that
abbrev pub place_of : ℕ → ℕ → ℕ → Place
place_of function block index = record { function = function; block = block; index = index }

-- an instruction of the block does so
abbrev pub InBlock : Module → InstRule → ℕ → ℕ → ℕ → Type 0
InBlock m rule function block line = (index : ℕ) × BreaksAt m rule (place_of function block index) line

-- an instruction of the function does so
abbrev pub InFunction : Module → InstRule → ℕ → ℕ → Type 0
InFunction m rule function line = (block : ℕ) × InBlock m rule function block line

-- it stands on the kernel's main side, and an instruction of it does so
abbrev pub InFunctionOf : Module → InstRule → ℕ → ℕ → ℕ → Type 0
InFunctionOf m rule kernel function line = IsOnMainSideOf m kernel function × InFunction m rule function line

-- ---- functions

-- the function at the place breaks the rule
abbrev pub BreaksFunction : FunctionRule → Module → ℕ → ℕ → Type 0
BreaksFunction Shared m kernel at = rules.IsShared m kernel at
BreaksFunction InRegion m kernel at = IsOnRegionSide m at

-- it stands on the kernel's main side, reaches a region and breaks the rule, and its define is on the line
abbrev pub FunctionBreaks : Module → FunctionRule → ℕ → ℕ → ℕ → Type 0
FunctionBreaks m rule kernel at line =
    (f : Function) × IsOnMainSideOf m kernel at × ReachesRegion m at × (slice_get m.functions at ≡ Some f) × BreaksFunction rule m kernel at × (f.line ≡ line)
