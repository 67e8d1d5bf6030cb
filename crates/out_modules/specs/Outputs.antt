-- Modules that the optimiser may give.
use Rattle.std.specs.Prelude.{◌≡◌, []}
use Rattle.ir_core.specs.declared.module.Module.{Module}
use Rattle.ir_core.specs.declared.refusal.Refusal.{Refusal}
use Rattle.ir_core.specs.Formed.{Formed}
use Rattle.ir_core.specs.NameRefusals.{name_refusals}
use Rattle.shapes.specs.CallPaths.{IsNested}
use Rattle.shapes.specs.Clauses.{clause_refusals}
use Rattle.shapes.specs.Limits.{limit_refusals}
use Rattle.shapes.specs.Wrappers.{wrapper_refusals}
use Rattle.out_modules.specs.OutputKernels.{output_kernel_refusals}

-- what holds of a module that the optimiser gives: some text spells it, and nothing is refused of it, but that its kernels' state machines may be switched off
pub record IsOutput (m : Module) : Type 0 where
  pub formed : Formed m
  pub names : name_refusals m ≡ []
  pub kernels : output_kernel_refusals m ≡ []
  pub wrappers : wrapper_refusals m ≡ []
  pub clauses : clause_refusals m ≡ []
  pub limits : limit_refusals m ≡ []
  pub nested : (r : Refusal) → IsNested m r → ⊥
