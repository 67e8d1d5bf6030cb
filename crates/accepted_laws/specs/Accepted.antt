-- What holds of a module of which nothing is refused.
use Rattle.std.specs.Prelude.{◌≡◌, ℕ, ◌≤◌, [], length, true, Some, slice_get}
use Rattle.std.specs.List.{list_all}
use Rattle.ir_core.specs.declared.types.Ty.{Ty}
use Rattle.ir_core.specs.declared.instructions.Inst.{Inst}
use Rattle.ir_core.specs.declared.module.Module.{Module}
use Rattle.ir_core.specs.declared.module.Function.{Function}
use Rattle.ir_core.specs.FirstForm.{is_scalar_param}
use Rattle.ir_core.specs.Formed.{Formed}
use Rattle.ir_core.specs.Layout.{WellFormed}
use Rattle.ir_core.specs.NameRefusals.{name_refusals}
use Rattle.ir_core.specs.Places.{Place, inst_at, function_place}
use Rattle.shapes.specs.Facts.{insts_in}
use Rattle.shapes.specs.Limits.{kind_types, limit_refusals, instruction_limit}

-- the type of a new block of the stack has a size, and so has the one that a getelementptr goes through
abbrev pub TypesHaveSizes : Type 0
TypesHaveSizes = (m : Module) → Formed m → name_refusals m ≡ [] →
    (p : Place) (i : Inst) (place : ℕ) (ty : Ty) → inst_at m p ≡ Some i → slice_get (kind_types i.kind) place ≡ Some ty → WellFormed m.types ty

-- the name of a function is that of its place
abbrev pub NamesArePlaces : Type 0
NamesArePlaces = (m : Module) → name_refusals m ≡ [] → (at : ℕ) (f : Function) → slice_get m.functions at ≡ Some f → function_place m f.name ≡ Some at

abbrev pub ParametersAreScalars : Type 0
ParametersAreScalars = (m : Module) → name_refusals m ≡ [] → (at : ℕ) (f : Function) → slice_get m.functions at ≡ Some f → list_all is_scalar_param f.params ≡ true

abbrev pub InstructionsAreFew : Type 0
InstructionsAreFew = (m : Module) → limit_refusals m ≡ [] → length (insts_in m) ≤ instruction_limit
