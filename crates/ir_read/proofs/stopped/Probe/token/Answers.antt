use Rattle.std.proofs.Common.{◌≡◌, ◌∙◌}
use Rattle.ir_lex.specs.Seen.{kind_seen}
use Rattle.ir_read.specs.Probes.{probe_bytes}
use Rattle.ir_read.proofs.Tried.{token_behind}
use Rattle.ir_read.proofs.stopped.Probe.token.Goals as goal

pub returns : goal.returns
returns c = λ text h. token_behind text probe_bytes c.args.base c.part-kind.result.1 c.part-kind.result.2 1 (kind_seen c.part-kind.result.0) h ∙ c.part-kind.ensures.seen
