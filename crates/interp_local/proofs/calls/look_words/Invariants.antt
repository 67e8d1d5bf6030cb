use Rattle.std.proofs.Common.{◌≡◌, drop}
use Rattle.mem_model.specs.Answers.{only_trap}
use Rattle.mem_model.specs.Values.{operand_words}
use Rattle.interp_local.specs.Operands.{registers}
use Rattle.interp_local.proofs.calls.look_words.Given as goal

-- each operand before this one has a word
abbrev pub invariant-loop-arg : goal.invariant-loop-arg
invariant-loop-arg l = only_trap (operand_words l.m (registers l.m l.s) (drop l.arg-index l.args)) ≡ only_trap (operand_words l.m (registers l.m l.s) l.args)
