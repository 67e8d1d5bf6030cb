-- What is refused of the sizes of types, part by part.
use Rattle.std.specs.Prelude.{ℕ, List, ◌∷◌}
use Rattle.std.specs.List.{flat_map}
use Rattle.ir_core.specs.declared.types.Ty.{Ty}
use Rattle.ir_core.specs.declared.module.Module.{Module}
use Rattle.ir_core.specs.declared.module.TypeDef.{TypeDef}
use Rattle.ir_core.specs.declared.module.Init.{Init}
use Rattle.ir_core.specs.declared.module.Element.{Element}
use Rattle.ir_core.specs.declared.refusal.Refusal.{Refusal}
use Rattle.shapes.specs.Limits.{of_size, init_types}

abbrev pub of_sizes : Module → ℕ → List Ty → List Refusal
of_sizes m line tys = flat_map (of_size m line) tys

abbrev pub element_types : Element → List Ty
element_types e = e.ty ∷ init_types e.init

abbrev pub of_element : Module → ℕ → Element → List Refusal
of_element m line e = of_sizes m line (element_types e)

abbrev pub of_init : Module → ℕ → Init → List Refusal
of_init m line init = of_sizes m line (init_types init)

abbrev pub of_type : Module → TypeDef → List Refusal
of_type m d = of_size m d.line d.body
