use Rattle.std.proofs.Common.{take, map}
use Rattle.ir_names.specs.Branches.{case_block, Grows}
use Rattle.ir_names.proofs.branches.add_cases.Given as goal

abbrev pub invariant-loop-case : goal.invariant-loop-case
invariant-loop-case l = Grows l.block (map case_block (take l.case-index l.cases)) l.initial.sources l.sources
