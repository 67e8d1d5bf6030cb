use Rattle.checked_modules.proofs.Accepted.{accepted_few}
use Rattle.checked_modules.proofs.checked.Checked.seal.Goals as goal

pub can_be_counted-requires : goal.can_be_counted-requires
can_be_counted-requires c = accepted_few c.args.m c.requires
