use Rattle.std.proofs.Common.{◌≡◌, ◌≤◌, [], take}
use Rattle.ir_core.specs.Language.{params_behind}
use Rattle.read_items.specs.Numbered.{numerals}
use Rattle.read_items.proofs.functions.numbered.Given as goal

abbrev pub invariant-loop-at : goal.invariant-loop-at
invariant-loop-at l = (l.params ≡ params_behind [] (take l.at l.given)) × (l.next ≡ numerals l.params) × (l.next ≤ l.at)
