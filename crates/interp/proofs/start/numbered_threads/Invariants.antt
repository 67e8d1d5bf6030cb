use Rattle.team_model.specs.Team.{threads_from}
use Rattle.interp.specs.Starts.{AreSeen, numbered_thread}
use Rattle.interp.proofs.start.numbered_threads.Given as goal

-- the threads of smaller numbers are made
abbrev pub invariant-loop-number : goal.invariant-loop-number
invariant-loop-number l = AreSeen l.m l.threads.items (threads_from (numbered_thread l.m l.l l.spmd) 0 l.number)
