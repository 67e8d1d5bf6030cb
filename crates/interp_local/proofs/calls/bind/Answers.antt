use Rattle.std.proofs.Common.{◌≡◌, length, Some, Ok, refl, sym, ap, ◌∙◌, arith, rules}
use Rattle.std.specs.Prelude.{slice_get}
use Rattle.std.proofs.lemmas.Option.{slice_get_read}
use Rattle.mem_model.specs.Values.{value_word}
use Rattle.interp_local.specs.Operands.{registers}
use Rattle.interp_local.proofs.Entered.{put_length, binds_first, binds_more}
use Rattle.interp_local.proofs.calls.bind.Goals as goal

pub put_word-requires : goal.put_word-requires
put_word-requires c =
    let b = c.loop-arg.invariant in
    let size = ap length b.values_are ∙ put_length c.args.params b.read.front c.args.values.now in
    let room = c.requires.room in
    omega arith

pub loop-arg-preserved : goal.loop-arg-preserved
loop-arg-preserved c =
    let m = c.args.m.now in
    let s = c.args.s.now in
    let args = c.args.args.now in
    let params = c.args.params in
    let old = c.args.values.now in
    let values = c.loop-arg.values in
    let n = c.loop-arg.arg-index in
    let at = c.loop-arg.at in
    let b = c.loop-arg.invariant in
    let v = c.arg-item.result in
    let there : slice_get args n ≡ Some v = slice_get_read args (length args) n v refl (search rules) (search rules) in
    let word : value_word m (registers m s) v.value ≡ Ok c.in_ok-word.word = sym c.value_word.ensures ∙ c.in_ok-word.was in
    binds_more m s args params old values n at b v there c.in_ok-word.word c.put_word.new.values word (c.put_word.ensures b.read.front old (b.place ∙ sym b.read.count) b.values_are)

pub loop-arg-init : goal.loop-arg-init
loop-arg-init c = binds_first c.args.m.now c.args.s.now c.args.args.now c.args.params c.args.values.now
