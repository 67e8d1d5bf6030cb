use Rattle.std.proofs.Common.{◌≡◌, take}
use Rattle.std.specs.List.{flat_map}
use Rattle.ir_core.specs.Notes.{remark_text}
use Rattle.opt_core.proofs.remarks.print_remarks.Given as goal

abbrev pub invariant-loop-remark : goal.invariant-loop-remark
invariant-loop-remark l = l.out.items ≡ flat_map remark_text (take l.remark-index l.remarks)
