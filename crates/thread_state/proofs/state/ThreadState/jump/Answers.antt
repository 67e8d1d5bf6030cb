use Rattle.std.proofs.Common.{rules}
use Rattle.thread_state.proofs.Frames.{replaced}
use Rattle.thread_state.proofs.Assigned.{jumps}
use Rattle.thread_state.proofs.state.ThreadState.jump.Goals as goal

pub returns-in-Some : goal.returns-in-Some
returns-in-Some c = λ m is. replaced c.args.self.now c.in-Some.frame.now (search rules) (search rules) (search rules) m _ _ (jumps m c.in-Some.frame.now c.args.block c.args.index) is
