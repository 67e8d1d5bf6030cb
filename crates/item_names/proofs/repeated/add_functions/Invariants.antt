use Rattle.std.proofs.Common.{◌≡◌, ◌++◌, take, map}
use Rattle.item_names.specs.Repeated.{entries_seen, function_entry}
use Rattle.item_names.proofs.repeated.add_functions.Given as goal

abbrev pub invariant-loop-function : goal.invariant-loop-function
invariant-loop-function l = entries_seen l.entries ≡ entries_seen l.initial.entries ++ map function_entry (take l.function-index l.functions)
