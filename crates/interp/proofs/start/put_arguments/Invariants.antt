use Rattle.std.proofs.Common.{◌≡◌, take}
use Rattle.mem_model.specs.Launching.{arg_words}
use Rattle.interp_local.specs.Calls.{put_words}
use Rattle.interp.proofs.start.put_arguments.Given as goal

-- the words of the arguments before this one are put
abbrev pub invariant-loop-at : goal.invariant-loop-at
invariant-loop-at l = l.values ≡ put_words l.params (arg_words 0 (take l.at l.args)) l.fn.values
