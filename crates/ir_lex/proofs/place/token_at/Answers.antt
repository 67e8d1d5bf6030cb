use Rattle.std.proofs.Common.{ap, ◌∙◌}
use Rattle.std.proofs.lemmas.List.{take_rest}
use Rattle.ir_core.specs.Scan.{piece_at}
use Rattle.ir_core.proofs.Lexing.{size_fits_at}
use Rattle.ir_lex.specs.Scanned.{piece_seen, spot_seen}
use Rattle.ir_lex.proofs.place.token_at.Goals as goal

pub returns-clause-some : goal.returns-clause-some
returns-clause-some c = (size_fits_at c.args.text.now (spot_seen c.args.place) c.args.place.at (piece_seen c.piece_at.result) c.requires.inside (c.piece_at.ensures ∙ ap (piece_at (spot_seen c.args.place)) (take_rest c.args.text.now c.args.place.at))).0

pub returns-clause-within : goal.returns-clause-within
returns-clause-within c = (size_fits_at c.args.text.now (spot_seen c.args.place) c.args.place.at (piece_seen c.piece_at.result) c.requires.inside (c.piece_at.ensures ∙ ap (piece_at (spot_seen c.args.place)) (take_rest c.args.text.now c.args.place.at))).1
