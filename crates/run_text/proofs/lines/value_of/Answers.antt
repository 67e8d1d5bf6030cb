use Rattle.std.proofs.Common.{◌<◌, length, arith}
use Rattle.run_text.proofs.CappedNumbers.{next_capped, all_capped}
use Rattle.run_text.proofs.lines.value_of.Goals as goal

pub loop-digit-preserved : goal.loop-digit-preserved
loop-digit-preserved c =
    let inside : c.loop-digit.digit-index < length c.args.digits.now = omega arith in
    next_capped c.append_digit-number.result c.loop-digit.number c.loop-digit.digit-index c.args.digits.now inside c.append_digit-number.ensures c.loop-digit.invariant.1

pub returns : goal.returns
returns c = all_capped c.loop-digit.number c.loop-digit.digit-index c.args.digits.now c.loop-digit.invariant.0 (omega arith) c.loop-digit.invariant.1
