use Rattle.std.proofs.Common.{[], ◌∷◌, reverse, drop, refl, sym, ap, ◌∙◌}
use Rattle.std.proofs.lemmas.List.{reverse-append}
use Rattle.thread_state.proofs.Ends.{left}
use Rattle.thread_state.proofs.state.ThreadState.leave.Goals as goal

pub returns-in-Some-clause-frames : goal.returns-in-Some-clause-frames
returns-in-Some-clause-frames c = sym (ap (λ fs. drop 1 (reverse fs)) c.in-Some.ensures.items ∙ ap (drop 1) (reverse-append c.pop.new.self.items (c.in-Some.frame ∷ [])))

pub returns-in-Some-clause-seen : goal.returns-in-Some-clause-seen
returns-in-Some-clause-seen c = λ m f rest is frames.
    left m c.args.self.now (record c.args.self.now { frames = c.pop.new.self; stack = c.truncate.new.self }) c.in-Some.frame c.pop.new.self.items c.in-Some.ensures.items refl c.truncate.ensures.items refl refl refl refl refl f rest is frames
