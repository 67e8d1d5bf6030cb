use Rattle.std.proofs.Common.{◌≡◌, drop}
use Rattle.ir_core.specs.EntryPoints.{is_among}
use Rattle.ir_read.specs.Probes.{words_seen}
use Rattle.ir_read.proofs.fits.is_among.Given as goal

abbrev pub invariant-loop-candidate : goal.invariant-loop-candidate
invariant-loop-candidate l = is_among (words_seen (drop l.candidate-index l.words)) l.word ≡ is_among (words_seen l.words) l.word
