use Rattle.std.proofs.Common.{arith, ◌+◌}
use Rattle.ir_core.proofs.Lexing.{line_small}
use Rattle.ir_lex.proofs.Places.{blank_gap, gap_then}
use Rattle.ir_lex.proofs.gaps.skip_blanks.Goals as goal

pub line_after-requires : goal.line_after-requires
line_after-requires c =
    let l = line_small c.args.text.now c.blanks.place.at c.blanks.invariant.is_place.inside in
    let k = c.blanks.invariant.is_place.line_is in
    let n = c.blanks.invariant.is_place.inside in
    let r = c.requires.room in
    omega arith

pub blanks-preserved : goal.blanks-preserved
blanks-preserved c =
    let blank = c.is_blank_at.ensures.0 c.blanks-test.true in
    let more = blank_gap c.args.text.now c.blanks.place c.line_after.result c.first_after.result c.blanks.invariant.is_place blank c.line_after.ensures c.first_after.ensures in
    gap_then c.args.text.now c.args.start c.blanks.place (record { at = c.blanks.place.at + 1; line = c.line_after.result; depth = c.blanks.place.depth; first = c.first_after.result }) c.blanks.invariant more
