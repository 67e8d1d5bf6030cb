use Rattle.std.proofs.Common.{rules}
use Rattle.thread_state.proofs.Frames.{replaced}
use Rattle.thread_state.proofs.Assigned.{passes}
use Rattle.thread_state.proofs.state.ThreadState.go_past.Goals as goal

pub returns-in-Some : goal.returns-in-Some
returns-in-Some c = λ m is. replaced c.args.self.now c.in-Some.frame.now (search rules) (search rules) (search rules) m _ _ (passes m c.in-Some.frame.now) is
