use Rattle.std.proofs.Common.{◌≡◌, ◌++◌, take, map, codes}
use Rattle.ir_core.specs.Text.{all_led}
use Rattle.text_laws.specs.Elements.{element_text}
use Rattle.ir_print.proofs.module.+write_init.Given as goal

abbrev pub invariant-write_elements-loop-element : goal.invariant-write_elements-loop-element
invariant-write_elements-loop-element l = l.out ≡ l.initial.out ++ all_led (codes ", ") (map element_text (take l.element-index l.rest))
