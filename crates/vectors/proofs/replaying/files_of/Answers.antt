use Rattle.std.proofs.Common.{refl}
use Rattle.opt_core.proofs.ReplayFiles.{are_distinct}
use Rattle.vectors.proofs.replaying.files_of.Goals as goal

pub new-requires-clause-names : goal.new-requires-clause-names
new-requires-clause-names c =
    are_distinct c.push-3.new.self (rw (c.in_ok-push-3.ensures.ok, c.in_ok-push-2.ensures.ok, c.in_ok-push.ensures.ok, c.new-files.ensures, c.in_ok-file_of.ensures.name, c.in_ok-file_of-2.ensures.name, c.in_ok-file_of-3.ensures.name) refl)
