-- Wrappers of regions: the functions that forks name for workers to call.
use Rattle.std.specs.Prelude.{ℕ, ◌-◌, List, [], ◌∷◌, length, map, max, Bool, true, false, Option, Some, None, if◌then◌else◌}
use Rattle.std.specs.List.{flat_map, filter, fold}
use Rattle.std.specs.Str.{bytes_eq}
use Rattle.ir_core.specs.declared.rtl.Rtl.TheVariants.{Parallel, GetSharedVariables}
use Rattle.ir_core.specs.EntryPoints.{entry_name}
use Rattle.ir_core.specs.declared.instructions.Value.{Value}
use Rattle.ir_core.specs.declared.instructions.Value.TheVariants.{Global as GlobalValue}
use Rattle.ir_core.specs.declared.instructions.Typed.{Typed}
use Rattle.ir_core.specs.declared.instructions.Kind.{Kind}
use Rattle.ir_core.specs.declared.instructions.Kind.TheVariants.{Call}
use Rattle.ir_core.specs.declared.instructions.Inst.{Inst}
use Rattle.ir_core.specs.declared.module.Module.{Module}
use Rattle.ir_core.specs.declared.module.Function.{Function}
use Rattle.ir_core.specs.declared.module.Block.{Block}

abbrev pub parallel : List ℕ
parallel = entry_name Parallel

abbrev pub get_shared_variables : List ℕ
get_shared_variables = entry_name GetSharedVariables

-- ---- calls

abbrev pub value_names : Value → List (List ℕ)
value_names (GlobalValue x) = x ∷ []
value_names _ = []

abbrev pub kind_callees : Kind → List (List ℕ)
kind_callees (Call tail_word ret callee operands) = value_names callee
kind_callees _ = []

abbrev pub inst_callees : Inst → List (List ℕ)
inst_callees i = kind_callees i.kind

abbrev pub block_callees : Block → List (List ℕ)
block_callees b = flat_map inst_callees b.insts

-- the functions that a function calls, in the order of the text
abbrev pub callees : Function → List (List ℕ)
callees f = flat_map block_callees f.blocks

-- ---- forks

-- a location, a thread number, if, num_threads, proc_bind, the region function, its wrapper, the words and their number
abbrev pub wrapper_operand : List Typed → List (List ℕ)
wrapper_operand (place ∷ number ∷ test ∷ count ∷ bind ∷ function ∷ wrapper ∷ words ∷ n ∷ []) = value_names wrapper.value
wrapper_operand _ = []

abbrev pub forked_by : Value → List Typed → List (List ℕ)
forked_by (GlobalValue x) operands = if bytes_eq x parallel then wrapper_operand operands else []
forked_by _ operands = []

abbrev pub kind_wrappers : Kind → List (List ℕ)
kind_wrappers (Call tail_word ret callee operands) = forked_by callee operands
kind_wrappers _ = []

abbrev pub inst_wrappers : Inst → List (List ℕ)
inst_wrappers i = kind_wrappers i.kind

abbrev pub block_wrappers : Block → List (List ℕ)
block_wrappers b = flat_map inst_wrappers b.insts

abbrev pub function_wrappers : Function → List (List ℕ)
function_wrappers f = flat_map block_wrappers f.blocks

-- the wrappers that forks of the module name
abbrev pub forked : Module → List (List ℕ)
forked m = flat_map function_wrappers m.functions

-- ---- wrappers

abbrev pub is_in : List (List ℕ) → List ℕ → Bool
is_in [] x = false
is_in (y ∷ ys) x = if bytes_eq x y then true else is_in ys x

-- a function that a fork names as its wrapper, or that asks for the shared variables
abbrev pub is_wrapper : Module → Function → Bool
is_wrapper m f = if is_in (forked m) f.name then true else is_in (callees f) get_shared_variables

abbrev pub wrappers : Module → List Function
wrappers m = filter (is_wrapper m) m.functions

abbrev pub with_blocks : Function → List Block → List Function
with_blocks f [] = []
with_blocks f (b ∷ bs) = f ∷ []

-- the defined functions of a name
abbrev pub defined : List Function → List ℕ → List Function
defined [] x = []
defined (f ∷ fs) x = if bytes_eq f.name x then with_blocks f f.blocks else defined fs x

abbrev pub first_of : List Function → Option Function
first_of [] = None
first_of (f ∷ fs) = Some f

-- the first defined function that a wrapper calls
abbrev pub region_function : Module → Function → Option Function
region_function m f = first_of (flat_map (defined m.functions) (callees f))

-- the parameters of a region function but its first two
abbrev pub captures_of : Option Function → ℕ
captures_of None = 0
captures_of (Some f) = length f.params - 2

abbrev pub captures : Module → Function → ℕ
captures m f = captures_of (region_function m f)

-- the most captures of a wrapper, 0 where there is none
abbrev pub most_captures : Module → ℕ
most_captures m = fold max 0 (map (captures m) (wrappers m))
