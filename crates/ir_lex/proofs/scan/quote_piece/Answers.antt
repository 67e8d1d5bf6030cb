use Rattle.std.proofs.Common.{◌∙◌}
use Rattle.ir_lex.specs.Scanned.{class_seen}
use Rattle.ir_lex.proofs.Lines.{closed_piece, open_piece}
use Rattle.ir_lex.proofs.scan.quote_piece.Goals as goal

pub returns-in-Some : goal.returns-in-Some
returns-in-Some c = c.by_colon.ensures ∙ closed_piece c.args.rest.now c.in-Some.size (class_seen c.class_at.result) c.in-Some.ensures c.class_at.ensures

pub returns-in-None : goal.returns-in-None
returns-in-None c = c.bad_piece.ensures ∙ open_piece c.args.rest.now c.in-None.ensures
