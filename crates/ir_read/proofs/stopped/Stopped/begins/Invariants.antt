use Rattle.std.proofs.Common.{◌≡◌, ◌++◌, map, take}
use Rattle.ir_core.specs.Tokens.{lexemes}
use Rattle.ir_lex.specs.Seen.{tokens_seen}
use Rattle.ir_read.specs.Probes.{probe_seen}
use Rattle.ir_read.proofs.stopped.Stopped.begins.Given as goal

abbrev pub invariant-loop-probe : goal.invariant-loop-probe
invariant-loop-probe l = lexemes l.self-inside.text.items (tokens_seen l.tokens) ≡ l.self.front ++ map probe_seen (take l.probe-index l.probes)
