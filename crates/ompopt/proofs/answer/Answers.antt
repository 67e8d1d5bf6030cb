use Rattle.std.proofs.Common.{sym, subst, IfSome}
use Rattle.opt_core.specs.Answer.{path_of, texts}
use Rattle.opt_core.specs.Replay.{AreServed, paths_of}
use Rattle.io_edge.specs.Place.{IsServed}
use Rattle.ompopt.proofs.Served.{path_is_served, paths_are_served}
use Rattle.ompopt.proofs.answer.Goals as goal

pub opt_main-requires : goal.opt_main-requires
opt_main-requires g c =
    subst (λ words. IfSome (path_of (texts c.args.words.now)) (λ path. IsServed words path)) (sym c.requires) (path_is_served c.args.words.now)

pub replay_main-requires : goal.replay_main-requires
replay_main-requires g c =
    subst (λ words. AreServed (λ name. IsServed words name) (paths_of (texts c.args.words.now))) (sym c.requires) (paths_are_served c.args.words.now)
