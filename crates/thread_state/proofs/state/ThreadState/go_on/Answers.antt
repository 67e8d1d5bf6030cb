use Rattle.std.proofs.Common.{sym, subst, rules}
use Rattle.mem_model.specs.Next.{code_on}
use Rattle.thread_state.specs.Moves.{frame_past}
use Rattle.thread_state.proofs.Frames.{Replaces, innermost_place, replaced}
use Rattle.thread_state.proofs.Assigned.{goes_behind}
use Rattle.thread_state.proofs.state.ThreadState.go_on.Goals as goal

pub returns-in-Some : goal.returns-in-Some
returns-in-Some c = λ m x is at.
    let s = c.args.self.now in
    let f = c.in-Some.frame.now in
    let word = c.args.word in
    let place = innermost_place s f (search rules) (search rules) (search rules) m x c.args.register at in
    replaced s f (search rules) (search rules) (search rules) m (λ b. code_on b x word) _ (subst (λ g. Replaces m (λ b. code_on b x word) f (frame_past g)) (sym c.assign.ensures) (goes_behind m f x c.args.register word place)) is
