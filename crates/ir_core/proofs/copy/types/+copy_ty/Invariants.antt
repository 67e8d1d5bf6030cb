use Rattle.std.proofs.Common.{◌≡◌, take}
use Rattle.ir_core.proofs.copy.types.+copy_ty.Given as goal

abbrev pub invariant-copy_tys-loop-ty : goal.invariant-copy_tys-loop-ty
invariant-copy_tys-loop-ty l = l.out ≡ take l.ty-index l.types
