use Rattle.std.proofs.Common.{ap, ◌∙◌}
use Rattle.run_text.specs.Lines.{hex_bytes}
use Rattle.run_text.proofs.ArgumentForms.{put_some, put_next}
use Rattle.run_text.proofs.arguments.hex_bytes.Goals as goal

pub pairs-preserved : goal.pairs-preserved
pairs-preserved c = rw c.in_ok-push.ensures.ok (c.pairs.invariant ∙ ap (put_some c.pairs.out) c.in-Some.ensures.is ∙ put_next c.pairs.out c.in-Some.byte (hex_bytes c.in-Some.after.now))
