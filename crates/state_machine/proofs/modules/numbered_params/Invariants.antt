use Rattle.std.proofs.Common.{◌≡◌, take, map}
use Rattle.ir_core.specs.EntryPoints.{scalar_type}
use Rattle.state_machine.specs.Modules.{numbered_param}
use Rattle.state_machine.specs.Numbered.{flat_from}
use Rattle.state_machine.proofs.modules.numbered_params.Given as goal

abbrev pub invariant-loop-at : goal.invariant-loop-at
invariant-loop-at l = l.out ≡ flat_from numbered_param 0 (map scalar_type (take l.at l.types))
