use Rattle.std.proofs.Common.{arith}
use Rattle.ir_lex.proofs.Behind.{line_fits, is_behind}
use Rattle.ir_lex.proofs.place.behind.Goals as goal

pub overflow_add-result : goal.overflow_add-result
overflow_add-result c =
    let l = line_fits c.args.text.now c.args.place c.args.token.size c.line_ends.result c.requires.is_place c.requires.within c.line_ends.ensures.value in
    let r = c.requires.room in
    omega arith

pub returns : goal.returns
returns c = is_behind c.args.text.now c.args.place c.args.token c.line_ends.result c.open_behind.result c.requires.is_place c.requires.some c.requires.within c.line_ends.ensures.value c.open_behind.ensures
