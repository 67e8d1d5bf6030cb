use Rattle.std.proofs.Common.{take}
use Rattle.mem_model.specs.Launching.{arg_words}
use Rattle.interp.proofs.Started.{room_left, words_before, words_more}
use Rattle.interp.proofs.start.put_arguments.Goals as goal

pub put_word-requires : goal.put_word-requires
put_word-requires c = room_left c.args.args.now c.args.params c.loop-at.at c.args.values.now c.loop-at.values c.requires.room c.loop-at.invariant

pub loop-at-preserved : goal.loop-at-preserved
loop-at-preserved c =
    let args = c.args.args.now in
    let n = c.loop-at.at in
    let low = c.loop-at-test.true in
    let old = c.args.values.now in
    words_more args n c.args.params c.index-args-at.result c.argument_word.result old c.put_word.new.values low c.index-args-at.is c.argument_word.ensures
    (c.put_word.ensures (arg_words 0 (take n args)) old (words_before args n low) c.loop-at.invariant)
