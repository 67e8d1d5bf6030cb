use Rattle.std.proofs.Common.{sym, ◌∙◌, refl}
use Rattle.ir_core.specs.Scan.{is_float}
use Rattle.ir_lex.specs.Scanned.{literal_seen}
use Rattle.ir_lex.proofs.LiteralSteps.{longest_over}
use Rattle.ir_lex.proofs.literal.float_size.Goals as goal

pub returns-else-not-is_over-clause-value : goal.returns-else-not-is_over-clause-value
returns-else-not-is_over-clause-value c = sym (c.bytes.invariant.value ∙ longest_over is_float (literal_seen c.bytes.literal) c.bytes.n c.bytes.size c.args.text.now refl (c.is_over.ensures.0 c.if-not-is_over.false))
