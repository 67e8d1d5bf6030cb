-- The lines of items that are counted.
use Rattle.std.specs.Prelude.{ℕ, List, map}
use Rattle.ir_core.specs.declared.instructions.Inst.{Inst}
use Rattle.ir_core.specs.declared.module.Function.{Function}
use Rattle.ir_core.specs.declared.module.Block.{Block}

abbrev pub function_line : Function → ℕ
function_line f = f.line

abbrev pub inst_line : Inst → ℕ
inst_line i = i.line

abbrev pub block_line : Block → ℕ
block_line b = b.line

abbrev pub block_lines : Function → List ℕ
block_lines f = map block_line f.blocks
