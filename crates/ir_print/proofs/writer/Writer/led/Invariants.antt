use Rattle.std.proofs.Common.{◌≡◌, ◌++◌, take, map}
use Rattle.ir_core.specs.Text.{all_led}
use Rattle.ir_print.proofs.writer.Writer.led.Given as goal

abbrev pub invariant-loop-item : goal.invariant-loop-item
invariant-loop-item g l = l.self ≡ l.initial.self ++ all_led l.separator (map g.T.Printed.text (take l.item-index l.items))
