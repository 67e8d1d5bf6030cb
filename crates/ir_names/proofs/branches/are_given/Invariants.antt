use Rattle.std.proofs.Common.{◌≡◌, drop, is_some}
use Rattle.std.specs.List.{list_all}
use Rattle.ir_tables.specs.Names.{names_seen, found_place}
use Rattle.ir_names.proofs.branches.are_given.Given as goal

-- the answer for the rest is the answer for all
abbrev pub invariant-loop-name : goal.invariant-loop-name
invariant-loop-name l = list_all (λ x. is_some (found_place l.given x)) (names_seen (drop l.name-index l.names)) ≡ list_all (λ x. is_some (found_place l.given x)) (names_seen l.names)
