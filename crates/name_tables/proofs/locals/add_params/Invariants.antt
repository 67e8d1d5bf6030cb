use Rattle.std.proofs.Common.{◌≡◌, ◌++◌, take, map}
use Rattle.ir_core.specs.Given.{param_name}
use Rattle.name_tables.specs.Kept.{all_seen, all_kept}
use Rattle.name_tables.proofs.locals.add_params.Given as goal

abbrev pub invariant-loop-param : goal.invariant-loop-param
invariant-loop-param l = all_seen l.names ≡ all_seen l.initial.names ++ all_kept (map (param_name l.line) (take l.param-index l.params))
