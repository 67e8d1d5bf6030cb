use Rattle.std.proofs.Common.{◌≡◌, ◌<◌, length, get_or, None, sym, ◌∙◌, arith}
use Rattle.ir_core.specs.Numbers.{value_of}
use Rattle.read_forms.specs.Widths.{in_word, with_digit}
use Rattle.read_forms.proofs.Digits.{digits_fail}
use Rattle.read_forms.proofs.numbers.number_of.Goals as goal

pub returns-in_err-number : goal.returns-in_err-number
returns-in_err-number c =
    let inside : c.loop-digit.digit-index < length c.args.digits.now = omega arith in
    let above : in_word (with_digit c.loop-digit.number (get_or c.args.digits.now c.loop-digit.digit-index 0)) ≡ None = sym c.append_digit.ensures ∙ c.in_err-number.was in
    c.from_residual.ensures ∙ sym (digits_fail c.loop-digit.number c.loop-digit.digit-index c.args.digits.now (value_of c.args.digits.now) inside c.loop-digit.invariant.1 above)
