-- Lists of instructions, as the code holds them.
use Rattle.std.specs.Prelude.{List, map}
use Rattle.std.specs.Borrow.{Bor}
use Rattle.ir_core.specs.declared.instructions.Inst.{Inst}
use Rattle.ir_core.specs.declared.module.Block.{Block}

abbrev pub inst_seen : Bor Inst → Inst
inst_seen i = i.now

abbrev pub insts_seen : List (Bor Inst) → List Inst
insts_seen insts = map inst_seen insts

abbrev pub block_insts : Block → List Inst
block_insts b = b.insts
