use Rattle.std.proofs.Common.{arith, ap, ◌∙◌}
use Rattle.std.proofs.lemmas.List.{take_rest}
use Rattle.ir_core.specs.Bytes.{no_line_end}
use Rattle.ir_core.specs.Scan.{run}
use Rattle.ir_core.proofs.Lexing.{run_inside, comment_some}
use Rattle.ir_lex.proofs.Places.{comment_gap}
use Rattle.ir_lex.proofs.gaps.skip_comment.Goals as goal

pub overflow_add-result : goal.overflow_add-result
overflow_add-result c =
    let k = c.line_run.ensures.run_is ∙ ap (run no_line_end) (take_rest c.args.text.now c.args.start.at) in
    let f = run_inside no_line_end c.args.text.now c.args.start.at c.requires.is_place.inside in
    omega arith

pub returns-clause-gap : goal.returns-clause-gap
returns-clause-gap c = comment_gap c.args.text.now c.args.start c.line_run.result c.requires.is_place c.requires.begins c.line_run.ensures.run_is

pub returns-clause-some : goal.returns-clause-some
returns-clause-some c =
    let k = c.line_run.ensures.run_is ∙ ap (run no_line_end) (take_rest c.args.text.now c.args.start.at) in
    let f = comment_some c.args.text.now c.args.start.at c.requires.begins in
    omega arith
