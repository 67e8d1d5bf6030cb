use Rattle.std.proofs.Common.{◌≡◌, ◌<◌, ◌^◌, ℕ, Some, length, slice_get}
use Rattle.ir_core.specs.declared.module.Function.{Function}
use Rattle.checked_modules.proofs.checked.can_be_counted.Given as goal

abbrev pub invariant-loop-f : goal.invariant-loop-f
invariant-loop-f l = (at : ℕ) (f : Function) → at < l.f-index → slice_get l.f-items at ≡ Some f → length f.params < 2 ^ 63
