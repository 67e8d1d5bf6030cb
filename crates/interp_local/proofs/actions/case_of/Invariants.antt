use Rattle.std.proofs.Common.{◌≡◌, drop}
use Rattle.mem_model.specs.Next.{case_for}
use Rattle.interp_local.proofs.actions.case_of.Given as goal

-- no case before this one is of the number
abbrev pub invariant-loop-case : goal.invariant-loop-case
invariant-loop-case l = case_for l.number l.other (drop l.case-index l.cases) ≡ case_for l.number l.other l.cases
