use Rattle.std.proofs.Common.{◌≡◌, take}
use Rattle.ir_core.proofs.copy.module.+copy_init.Given as goal

abbrev pub invariant-copy_elements-loop-element : goal.invariant-copy_elements-loop-element
invariant-copy_elements-loop-element l = l.out ≡ take l.element-index l.elements
