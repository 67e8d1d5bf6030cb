use Rattle.std.proofs.lemmas.Nat.{or_lt, xor_lt}
use Rattle.mem_model.proofs.update.updated.Goals as goal

pub returns-in-Or-clause-fits : goal.returns-in-Or-clause-fits
returns-in-Or-clause-fits c = or_lt c.args.width c.args.old c.args.number c.requires.fits.0 c.requires.fits.1

pub returns-in-Xor-clause-fits : goal.returns-in-Xor-clause-fits
returns-in-Xor-clause-fits c = xor_lt c.args.width c.args.old c.args.number c.requires.fits.0 c.requires.fits.1
