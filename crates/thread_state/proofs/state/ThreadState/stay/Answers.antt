use Rattle.std.proofs.Common.{rules}
use Rattle.thread_state.proofs.Frames.{replaced, innermost_long}
use Rattle.thread_state.proofs.Assigned.{stays}
use Rattle.thread_state.proofs.state.ThreadState.stay.Goals as goal

pub returns-in-Some : goal.returns-in-Some
returns-in-Some c = λ m is long occurs.
    let f = c.in-Some.frame.now in
    replaced c.args.self.now f (search rules) (search rules) (search rules) m _ _ (stays m f c.args.phase (innermost_long c.args.self.now f (search rules) (search rules) (search rules) m long) occurs) is
