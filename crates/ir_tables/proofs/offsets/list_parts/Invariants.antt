use Rattle.std.proofs.Common.{◌≡◌, ◌-◌}
use Rattle.ir_core.specs.Layout.{named_parts}
use Rattle.ir_tables.proofs.offsets.list_parts.Given as goal

-- what the last name has is what the first one has
abbrev pub invariant-loop : goal.invariant-loop
invariant-loop l = named_parts (l.depth - l.counter) l.types l.last ≡ named_parts l.depth l.types l.fn.name
