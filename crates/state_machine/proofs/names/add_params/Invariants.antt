use Rattle.std.proofs.Common.{◌≡◌, ◌++◌, take, map}
use Rattle.ir_core.specs.Places.{param_name}
use Rattle.ir_tables.specs.Names.{names_seen}
use Rattle.state_machine.proofs.names.add_params.Given as goal

abbrev pub invariant-loop-param : goal.invariant-loop-param
invariant-loop-param l = names_seen l.names ≡ names_seen l.initial.names ++ map param_name (take l.param-index l.params)
