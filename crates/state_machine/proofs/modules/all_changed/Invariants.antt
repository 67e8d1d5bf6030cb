use Rattle.std.proofs.Common.{◌≡◌, take}
use Rattle.state_machine.specs.Modules.{changed_at}
use Rattle.state_machine.specs.Numbered.{flat_from}
use Rattle.state_machine.proofs.modules.all_changed.Given as goal

abbrev pub invariant-loop-at : goal.invariant-loop-at
invariant-loop-at l = l.out ≡ flat_from (changed_at l.plans) 0 (take l.at l.functions)
