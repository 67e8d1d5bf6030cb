use Rattle.std.proofs.Common.{sym, ap, ◌∙◌, subst, rules, slice_set}
use Rattle.thread_state.proofs.Frames.{Replaces, room_with, room_was, same_seen, with_last, replaced}
use Rattle.thread_state.proofs.Assigned.{keeps}
use Rattle.thread_state.proofs.state.ThreadState.keep.Goals as goal

pub returns-in-Some-clause-room : goal.returns-in-Some-clause-room
returns-in-Some-clause-room c =
    let s = c.args.self.now in
    let f = c.in-Some.frame.now in
    room_with s f (search rules) (search rules) (search rules) _
    ∙ ap (λ g. g.room) c.keep.ensures
    ∙ ap (λ room. slice_set room c.args.at c.args.word) (sym (room_was s f (search rules) (search rules) (search rules)))

pub returns-in-Some-clause-same : goal.returns-in-Some-clause-same
returns-in-Some-clause-same c = λ m is.
    let s = c.args.self.now in
    let f = c.in-Some.frame.now in
    same_seen m s (with_last s c.keep.new.self)
    (replaced s f (search rules) (search rules) (search rules) m (λ b. b) _ (subst (λ g. Replaces m (λ b. b) f g) (sym c.keep.ensures) (keeps m f c.args.at c.args.word)) is)
