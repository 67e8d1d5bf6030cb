use Rattle.std.proofs.Common.{◌≡◌, length}
use Rattle.run_text.specs.Lines.{hex_bytes}
use Rattle.run_text.proofs.ArgumentForms.{put_some}
use Rattle.run_text.proofs.arguments.hex_bytes.Given as goal

-- the bytes so far, before those of the rest, are all
abbrev pub invariant-pairs : goal.invariant-pairs
invariant-pairs l = hex_bytes l.fn.digits ≡ put_some l.out (hex_bytes l.rest)

abbrev pub decreases-pairs : goal.decreases-pairs
decreases-pairs l = length l.rest
