-- Modules in which each instruction is replaced by another.
use Rattle.std.specs.Prelude.{map}
use Rattle.ir_core.specs.declared.instructions.Inst.{Inst}
use Rattle.ir_core.specs.declared.module.Module.{Module}
use Rattle.ir_core.specs.declared.module.Function.{Function}
use Rattle.ir_core.specs.declared.module.Block.{Block}
use Rattle.ir_core.specs.Instructions.{last}
use Rattle.text_laws.specs.Spelling.{IsSpelled}
use Rattle.text_laws.specs.Parts.{FormedInst}

abbrev pub block_edited : (Inst → Inst) → Block → Block
block_edited edit b = record b { insts = map edit b.insts }

abbrev pub function_edited : (Inst → Inst) → Function → Function
function_edited edit f = record f { blocks = map (block_edited edit) f.blocks }

abbrev pub module_edited : (Inst → Inst) → Module → Module
module_edited edit m = record m { functions = map (function_edited edit) m.functions }

-- the new instruction may stand where the old one stood
pub record KeepsInsts (edit : Inst → Inst) : Type 0 where
  pub plain : (i : Inst) → FormedInst i → FormedInst (edit i)
  pub last : (i : Inst) → IsSpelled last i → IsSpelled last (edit i)
