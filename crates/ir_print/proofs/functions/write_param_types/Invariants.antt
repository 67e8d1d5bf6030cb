use Rattle.std.proofs.Common.{◌≡◌, ◌++◌, take, map, codes}
use Rattle.ir_core.specs.Text.{param_type_text, all_led}
use Rattle.ir_print.proofs.functions.write_param_types.Given as goal

abbrev pub invariant-loop-param : goal.invariant-loop-param
invariant-loop-param l = l.out ≡ l.initial.out ++ all_led (codes ", ") (map param_type_text (take l.param-index l.rest))
