-- The module whose kernel has its unused state machine switched off.
use Rattle.std.specs.Prelude.{ℕ, List, [], ◌∷◌, map, Bool, false, if◌then◌else◌}
use Rattle.std.specs.List.{flat_map}
use Rattle.std.specs.Str.{bytes_eq}
use Rattle.ir_core.specs.declared.instructions.Value.{Value}
use Rattle.ir_core.specs.declared.instructions.Value.TheVariants.{Int as IntValue, Global as GlobalValue}
use Rattle.ir_core.specs.declared.instructions.Typed.{Typed}
use Rattle.ir_core.specs.declared.instructions.Kind.{Kind}
use Rattle.ir_core.specs.declared.instructions.Kind.TheVariants.{Call}
use Rattle.ir_core.specs.declared.instructions.Inst.{Inst}
use Rattle.ir_core.specs.declared.module.Module.{Module}
use Rattle.ir_core.specs.declared.module.Function.{Function}
use Rattle.ir_core.specs.declared.module.Block.{Block}
use Rattle.ir_core.specs.declared.remark.Remark.{Remark}
use Rattle.ir_core.specs.EntryPoints.{target_init}
use Rattle.ir_core.specs.Notes.{machine_removed}

-- a call of __kmpc_target_init
abbrev pub calls_init : Value → Bool
calls_init (GlobalValue x) = bytes_eq x target_init
calls_init _ = false

-- the last operand says whether the runtime's worker loop runs
abbrev pub operands_off : List Typed → List Typed
operands_off (place ∷ mode ∷ flag ∷ []) = place ∷ mode ∷ record flag { value = IntValue 0 } ∷ []
operands_off operands = operands

abbrev pub kind_off : Kind → Kind
kind_off (Call tail_word ret callee operands) = Call tail_word ret callee (if calls_init callee then operands_off operands else operands)
kind_off kind = kind

abbrev pub inst_off : Inst → Inst
inst_off i = record i { kind = kind_off i.kind }

abbrev pub block_off : Block → Block
block_off b = record b { insts = map inst_off b.insts }

abbrev pub function_off : Function → Function
function_off f = record f { blocks = map block_off f.blocks }

-- each init call has i1 false, and nothing else is changed
abbrev pub machine_off : Module → Module
machine_off m = record m { functions = map function_off m.functions }

-- the lines of the init calls, in the order of the text
abbrev pub kind_init_lines : ℕ → Kind → List ℕ
kind_init_lines line (Call tail_word ret callee operands) = if calls_init callee then line ∷ [] else []
kind_init_lines line kind = []

abbrev pub inst_init_lines : Inst → List ℕ
inst_init_lines i = kind_init_lines i.line i.kind

abbrev pub block_init_lines : Block → List ℕ
block_init_lines b = flat_map inst_init_lines b.insts

abbrev pub function_init_lines : Function → List ℕ
function_init_lines f = flat_map block_init_lines f.blocks

abbrev pub init_lines : Module → List ℕ
init_lines m = flat_map function_init_lines m.functions

-- what is said of the module: one remark for each kernel
abbrev pub Remarks : Module → List Remark
Remarks m = map machine_removed (init_lines m)
