use Rattle.std.proofs.Common.{sym, ap, ◌∙◌, subst, rules}
use Rattle.thread_state.specs.Moves.{with_register}
use Rattle.thread_state.proofs.Frames.{Replaces, innermost_place, room_with, room_was, names_with, replaced}
use Rattle.thread_state.proofs.Assigned.{assigns}
use Rattle.thread_state.proofs.state.ThreadState.assign.Goals as goal

pub returns-in-Some-clause-moves : goal.returns-in-Some-clause-moves
returns-in-Some-clause-moves c = λ m x is at.
    let s = c.args.self.now in
    let f = c.in-Some.frame.now in
    let word = c.args.word in
    let place = innermost_place s f (search rules) (search rules) (search rules) m x c.args.register at in
    replaced s f (search rules) (search rules) (search rules) m (with_register x word) _ (subst (λ g. Replaces m (with_register x word) f g) (sym c.assign.ensures) (assigns m f x c.args.register word place)) is

pub returns-in-Some-clause-room : goal.returns-in-Some-clause-room
returns-in-Some-clause-room c =
    let s = c.args.self.now in
    let f = c.in-Some.frame.now in
    room_with s f (search rules) (search rules) (search rules) _ ∙ ap (λ g. g.room) c.assign.ensures ∙ sym (room_was s f (search rules) (search rules) (search rules))

pub returns-in-Some-clause-names : goal.returns-in-Some-clause-names
returns-in-Some-clause-names c = λ m.
    let s = c.args.self.now in
    let f = c.in-Some.frame.now in
    names_with s f (search rules) (search rules) (search rules) m _ (ap (λ g. g.function) c.assign.ensures)
