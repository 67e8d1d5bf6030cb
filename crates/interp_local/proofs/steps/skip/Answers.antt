use Rattle.std.proofs.Common.{None, sym, subst}
use Rattle.mem_model.specs.Next.{code_on, goes_back}
use Rattle.thread_state.specs.Seen.{thread_seen, IsSeen}
use Rattle.interp_local.proofs.Moved.{moved}
use Rattle.interp_local.proofs.steps.skip.Goals as goal

pub returns-in-Some : goal.returns-in-Some
returns-in-Some c = λ f rest is frames.
    subst (λ w. IsSeen c.args.m.now c.go_on.new.self (goes_back (thread_seen c.args.m.now c.args.s.now) f rest None w)) (sym c.in-Some.is)
    (moved c.args.m.now c.args.s.now c.go_on.new.self (λ d. code_on d None c.in-Some.word) f rest (c.go_on.ensures c.args.m.now None is tt) frames)
