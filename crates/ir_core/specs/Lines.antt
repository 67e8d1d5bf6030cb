-- Modules that differ in lines alone.
use Rattle.std.specs.Prelude.{◌≡◌, map}
use Rattle.ir_core.specs.declared.instructions.Inst.{Inst}
use Rattle.ir_core.specs.declared.module.Module.{Module}
use Rattle.ir_core.specs.declared.module.TypeDef.{TypeDef}
use Rattle.ir_core.specs.declared.module.Global.{Global}
use Rattle.ir_core.specs.declared.module.Function.{Function}
use Rattle.ir_core.specs.declared.module.Block.{Block}

abbrev pub inst_unlined : Inst → Inst
inst_unlined i = record i { line = 0 }

abbrev pub block_unlined : Block → Block
block_unlined b = record b { insts = map inst_unlined b.insts; line = 0 }

abbrev pub function_unlined : Function → Function
function_unlined f = record f { blocks = map block_unlined f.blocks; line = 0 }

abbrev pub type_unlined : TypeDef → TypeDef
type_unlined t = record t { line = 0 }

abbrev pub global_unlined : Global → Global
global_unlined g = record g { line = 0 }

-- the module with 0 for each line
abbrev pub unlined : Module → Module
unlined m = record m { types = map type_unlined m.types; globals = map global_unlined m.globals; functions = map function_unlined m.functions }

abbrev pub SameButLines : Module → Module → Type 0
SameButLines m n = unlined m ≡ unlined n
