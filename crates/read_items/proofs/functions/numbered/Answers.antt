use Rattle.std.proofs.Common.{◌≡◌, ◌+◌, ◌<◌, ◌∷◌, [], length, arith}
use Rattle.std.specs.List.{filter}
use Rattle.ir_core.specs.Text.{is_digits}
use Rattle.read_items.proofs.Numbers.{behind_more, one_numeral, numerals_push}
use Rattle.read_items.proofs.functions.numbered.Goals as goal

pub loop-at-preserved : goal.loop-at-preserved
loop-at-preserved c =
    let inside : c.loop-at.at < length c.args.given.now = omega arith in
    let so_far = c.loop-at.invariant in
    let more = behind_more c.loop-at.at c.args.given.now c.index-given-at.result inside in
    let pushed = c.in_ok-push.ensures.ok in
    let name = c.in_ok-name.ensures in
    let ty = c.in_ok-ty.ensures in
    let item = c.index-given-at.is in
    let slice = c.as_slice.ensures in
    let next = c.number_behind-next.ensures in
    let count = numerals_push c.loop-at.params (record { name = c.in_ok-name.name; ty = c.in_ok-ty.ty }) in
    let one = one_numeral c.in_ok-name.name in
    let behind : c.number_behind-next.result ≡ c.loop-at.next + length (filter is_digits (c.in_ok-name.name ∷ [])) = cc (next, slice) in
    (cc (more, pushed, name, ty, item, so_far.0, so_far.1), cc (behind, count, pushed, so_far.1), omega arith)
