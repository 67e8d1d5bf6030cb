use Rattle.std.proofs.Common.{◌≡◌, ◌++◌, take, map}
use Rattle.item_names.specs.Repeated.{entries_seen, global_entry}
use Rattle.item_names.proofs.repeated.add_globals.Given as goal

abbrev pub invariant-loop-global : goal.invariant-loop-global
invariant-loop-global l = entries_seen l.entries ≡ entries_seen l.initial.entries ++ map global_entry (take l.global-index l.globals)
