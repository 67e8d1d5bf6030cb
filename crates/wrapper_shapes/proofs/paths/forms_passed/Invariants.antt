use Rattle.std.proofs.Common.{◌≡◌, drop}
use Rattle.std.specs.Option.{option_copied}
use Rattle.shapes.specs.Insts.{insts_seen}
use Rattle.shapes.specs.Walk as spec
use Rattle.wrapper_shapes.specs.Seen.{step_for, walk_seen}
use Rattle.wrapper_shapes.proofs.paths.forms_passed.Given as goal

abbrev pub invariant-loop-inst : goal.invariant-loop-inst
invariant-loop-inst l = spec.walked (step_for (option_copied l.region)) (insts_seen (drop l.inst-index l.insts)) (walk_seen l.walk) ≡ spec.walked (step_for (option_copied l.region)) (insts_seen l.insts) (spec.first_walk l.params)
