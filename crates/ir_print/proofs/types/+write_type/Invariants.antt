use Rattle.std.proofs.Common.{◌≡◌, ◌++◌, take, map, codes}
use Rattle.ir_core.specs.Text.{type_text, all_led}
use Rattle.ir_print.proofs.types.+write_type.Given as goal

abbrev pub invariant-write_fields-loop-field : goal.invariant-write_fields-loop-field
invariant-write_fields-loop-field l = l.out ≡ l.initial.out ++ all_led (codes ", ") (map type_text (take l.field-index l.rest))
