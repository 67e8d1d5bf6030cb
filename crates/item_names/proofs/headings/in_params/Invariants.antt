use Rattle.std.proofs.Common.{◌≡◌, take}
use Rattle.std.specs.List.{flat_map}
use Rattle.ir_core.specs.NameRefusals.{in_param}
use Rattle.name_tables.specs.Least.{least_of}
use Rattle.item_names.proofs.headings.in_params.Given as goal

abbrev pub invariant-loop-param : goal.invariant-loop-param
invariant-loop-param l = l.found ≡ least_of (flat_map (in_param l.tables) (take l.param-index l.params))
