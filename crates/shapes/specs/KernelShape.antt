-- The shape of a kernel in generic mode, as clang 16 writes it for the device runtime: a first block that calls __kmpc_target_init and
-- sends the workers to the exit, and the user code, which calls __kmpc_target_deinit before each of its returns.
use Rattle.std.specs.Prelude.{ℕ, List, [], ◌∷◌, ◌++◌, length, drop, codes, Bool, true, false, not, ◌==◌, ◌&&◌, Option, Some, None, option_map, if◌then◌else◌}
use Rattle.std.specs.List.{flat_map, filter, find, list_any}
use Rattle.std.specs.Str.{bytes_eq}
use Rattle.ir_core.specs.declared.instructions.Value.{Value}
use Rattle.ir_core.specs.declared.instructions.Value.TheVariants.{Local as LocalValue}
use Rattle.ir_core.specs.declared.instructions.Pred.TheVariants.{Eq, Ne}
use Rattle.ir_core.specs.declared.instructions.Kind.{Kind}
use Rattle.ir_core.specs.declared.instructions.Kind.TheVariants.{Bin, ICmp, Cast, Select, Alloca, Load, Store, Gep, CondBr, Ret}
use Rattle.ir_core.specs.declared.instructions.Inst.{Inst}
use Rattle.ir_core.specs.declared.module.Module.{Module}
use Rattle.ir_core.specs.declared.module.Function.{Function}
use Rattle.ir_core.specs.declared.module.Global.{Global}
use Rattle.ir_core.specs.declared.module.Init.{Init}
use Rattle.ir_core.specs.declared.module.Init.TheVariants.{Int as IntInit}
use Rattle.ir_core.specs.declared.module.Block.{Block}
use Rattle.ir_core.specs.declared.refusal.Construct.TheVariants.{KernelShape, SpmdInput}
use Rattle.ir_core.specs.declared.refusal.Refusal.{Refusal}
use Rattle.ir_core.specs.declared.rtl.Rtl.TheVariants.{TargetInit, TargetDeinit}
use Rattle.ir_core.specs.FirstForm.{is_int_of, is_void, is_register, are_compared, is_exit}
use Rattle.ir_core.specs.Places.{Name}
use Rattle.ir_core.specs.Typing.{targets_of}
use Rattle.ir_core.specs.Wrappers.{is_in}
use Rattle.shapes.specs.Facts.{rule, insts_of, first_insts, is_call_of, operand_of, is_constant, gives}
use Rattle.shapes.specs.Uses.{names_used, names_called, names_forked}

abbrev pub shaped : Bool → ℕ → List Refusal
shaped = rule KernelShape

-- a function that calls __kmpc_target_init
abbrev pub is_kernel : Function → Bool
is_kernel f = list_any (is_call_of TargetInit) (insts_of f)

-- ---- kernels that are in SPMD mode already

abbrev pub exec_mode_name : Function → Name
exec_mode_name f = f.name ++ codes "_exec_mode"

-- the global that says in which mode the kernel runs
abbrev pub exec_mode : Module → Function → Option Global
exec_mode m f = find (λ g. bytes_eq g.name (exec_mode_name f)) m.globals

abbrev pub holds_number : ℕ → Option Init → Bool
holds_number n (Some (IntInit k)) = k == n
holds_number n _ = false

abbrev pub spmd_call : Inst → List Refusal
spmd_call i = rule SpmdInput (not (is_call_of TargetInit i && is_constant 2 (operand_of i 1))) i.line

abbrev pub spmd_global : Option Global → List Refusal
spmd_global None = []
spmd_global (Some g) = rule SpmdInput (not (holds_number 2 g.init)) g.line

abbrev pub spmd_inputs : Module → Function → List Refusal
spmd_inputs m f = flat_map spmd_call (insts_of f) ++ spmd_global (exec_mode m f)

-- ---- the heading, and the global

-- a kernel returns nothing, is never called, is no region function, and calls __kmpc_target_init once
abbrev pub has_heading : Module → Function → Bool
has_heading m f =
    is_void f.ret && not (is_in (names_called m) f.name) && not (is_in (names_forked m) f.name) && (length (filter (is_call_of TargetInit) (insts_of f)) == 1)

-- beside its definition the name of the global stands in no operand and no initializer
abbrev pub of_exec_mode : Module → Option Global → List Refusal
of_exec_mode m None = []
of_exec_mode m (Some g) = shaped (is_int_of 8 g.ty && g.constant && holds_number 1 g.init && not (is_in (names_used m) g.name)) g.line

-- ---- the first block

-- the init call of a block, with the instructions before it and those behind
pub record Opening : Type 0 where
  pub before : List Inst
  pub init : Inst
  pub behind : List Inst

abbrev pub behind_inst : Inst → Opening → Opening
behind_inst i o = record o { before = i ∷ o.before }

abbrev pub opening : List Inst → Option Opening
opening [] = None
opening (i ∷ is) = if is_call_of TargetInit i then Some (record { before = []; init = i; behind = is }) else option_map (behind_inst i) (opening is)

abbrev pub makes_block : Kind → Bool
makes_block (Alloca ty align) = true
makes_block _ = false

-- the register of an alloca among these
abbrev pub is_alloca_in : List Inst → Value → Bool
is_alloca_in insts (LocalValue x) = list_any (λ i. gives x i && makes_block i.kind) insts
is_alloca_in insts _ = false

abbrev pub goes_into_alloca : List Inst → Kind → Bool
goes_into_alloca insts (Gep inbounds ty base path) = is_alloca_in insts base.value
goes_into_alloca insts _ = false

-- an alloca, or a getelementptr of one among these
abbrev pub makes_own : List Inst → Kind → Bool
makes_own insts kind = if makes_block kind then true else goes_into_alloca insts kind

-- the register of such an instruction among these
abbrev pub is_own_pointer : List Inst → Value → Bool
is_own_pointer insts (LocalValue x) = list_any (λ i. gives x i && makes_own insts i.kind) insts
is_own_pointer insts _ = false

-- what may stand before the init call in a block with these instructions
abbrev pub may_open : List Inst → Kind → Bool
may_open insts (Bin op flags ty a b) = true
may_open insts (ICmp pred ty a b) = true
may_open insts (Cast op from to) = true
may_open insts (Select c a b) = true
may_open insts (Alloca ty align) = true
may_open insts (Gep inbounds ty base path) = true
may_open insts (Load ty at order align) = is_own_pointer insts at.value
may_open insts (Store value at order align) = is_own_pointer insts at.value
may_open insts _ = false

abbrev pub of_opener : List Inst → Inst → List Refusal
of_opener insts i = shaped (may_open insts i.kind) i.line

-- the mode is generic, and the runtime's own state machine is asked for
abbrev pub is_generic_init : Inst → Bool
is_generic_init i = is_constant 1 (operand_of i 1) && is_constant 1 (operand_of i 2)

abbrev pub compares : Name → Kind → Bool
compares x (ICmp Eq ty a b) = are_compared x a b
compares x (ICmp Ne ty a b) = are_compared x a b
compares x _ = false

-- it compares the init call's result with -1
abbrev pub is_test : Option Name → Inst → Bool
is_test None test = false
is_test (Some x) test = compares x test.kind

-- where the main thread and where the workers go
pub record Ways : Type 0 where
  pub user : Name
  pub exit : Name

abbrev pub ways_by : Kind → Name → Name → Option Ways
ways_by (ICmp Eq ty a b) then_to else_to = Some (record { user = then_to; exit = else_to })
ways_by (ICmp Ne ty a b) then_to else_to = Some (record { user = else_to; exit = then_to })
ways_by _ then_to else_to = None

abbrev pub ways_on : Inst → Option Name → Kind → Option Ways
ways_on test (Some x) (CondBr c then_to else_to) = if is_register x c.value then ways_by test.kind then_to else_to else None
ways_on test x _ = None

-- the branch on the comparison
abbrev pub ways : Inst → Inst → Option Ways
ways test branch = ways_on test test.result branch.kind

-- the ways go apart
abbrev pub two_ways : Option Ways → Bool
two_ways None = false
two_ways (Some w) = not (bytes_eq w.user w.exit)

abbrev pub of_branch : ℕ → Inst → List Inst → List Refusal
of_branch line test [] = shaped false line
of_branch line test (branch ∷ more) = shaped (two_ways (ways test branch)) branch.line

abbrev pub of_behind : ℕ → Option Name → List Inst → List Refusal
of_behind line x [] = shaped false line
of_behind line x (test ∷ more) = if is_test x test then of_branch line test more else shaped false test.line

-- the rules on the first block, of a kernel on this line
abbrev pub of_opening : ℕ → List Inst → Option Opening → List Refusal
of_opening line insts None = shaped false line
of_opening line insts (Some o) =
    flat_map (of_opener insts) o.before ++ shaped (is_generic_init o.init) o.init.line ++ of_behind line o.init.result o.behind

abbrev pub ways_behind : List Inst → Option Ways
ways_behind (test ∷ branch ∷ more) = ways test branch
ways_behind _ = None

-- where the first block of a kernel goes, where it has its shape
abbrev pub ways_of : Option Opening → Option Ways
ways_of None = None
ways_of (Some o) = ways_behind o.behind

abbrev pub kernel_ways : Function → Option Ways
kernel_ways f = ways_of (opening (first_insts f.blocks))

-- ---- the exit, and the ends of the user code

abbrev pub branches_to : Name → Block → Bool
branches_to x b = list_any (λ i. is_in (targets_of i.kind) x) b.insts

-- the block for workers only returns, and no block but the first goes there
abbrev pub of_exit_block : Function → Option Block → List Refusal
of_exit_block f None = []
of_exit_block f (Some b) = shaped (is_exit b.insts && not (list_any (branches_to b.name) (drop 1 f.blocks))) b.line

abbrev pub of_exit : Function → Option Ways → List Refusal
of_exit f None = []
of_exit f (Some w) = of_exit_block f (find (λ b. bytes_eq b.name w.exit) f.blocks)

abbrev pub is_exit_name : Option Ways → Name → Bool
is_exit_name None x = false
is_exit_name (Some w) x = bytes_eq w.exit x

abbrev pub returns : Kind → Bool
returns (Ret v) = true
returns _ = false

-- the last of the instructions before is a deinit call of the generic mode
abbrev pub is_deinit : Option Inst → Bool
is_deinit None = false
is_deinit (Some i) = is_call_of TargetDeinit i && is_constant 1 (operand_of i 1)

abbrev pub returns_next : List Inst → Bool
returns_next [] = false
returns_next (i ∷ is) = returns i.kind

-- a return stands right behind a deinit call, unless it is free, and a deinit call right before a return
abbrev pub of_ends : Bool → Option Inst → List Inst → List Refusal
of_ends free before [] = []
of_ends free before (i ∷ is) =
    (if returns i.kind then shaped (if free then true else is_deinit before) i.line else [])
    ++ (if is_call_of TargetDeinit i then shaped (is_constant 1 (operand_of i 1) && returns_next is) i.line else [])
    ++ of_ends free (Some i) is

abbrev pub of_block : Option Ways → Block → List Refusal
of_block w b = of_ends (is_exit_name w b.name) None b.insts

-- ---- the whole

-- the rules on its heading and its code
abbrev pub of_code : Module → Function → List Refusal
of_code m f =
    shaped (has_heading m f) f.line ++ of_opening f.line (first_insts f.blocks) (opening (first_insts f.blocks))
    ++ of_exit f (kernel_ways f) ++ flat_map (of_block (kernel_ways f)) f.blocks

abbrev pub of_generic : Module → Function → List Refusal
of_generic m f = of_exec_mode m (exec_mode m f) ++ of_code m f

-- of a kernel in SPMD mode no other rule is asked
abbrev pub of_modes : List Refusal → List Refusal → List Refusal
of_modes [] generic = generic
of_modes (r ∷ rs) generic = r ∷ rs

abbrev pub deinit_outside : Inst → List Refusal
deinit_outside i = shaped (not (is_call_of TargetDeinit i)) i.line

abbrev pub of_function : Module → Function → List Refusal
of_function m f = if is_kernel f then of_modes (spmd_inputs m f) (of_generic m f) else flat_map deinit_outside (insts_of f)

abbrev pub kernel_refusals : Module → List Refusal
kernel_refusals m = shaped (list_any is_kernel m.functions) 1 ++ flat_map (of_function m) m.functions
