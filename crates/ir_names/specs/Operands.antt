-- What is refused of a register, by what is kept of it.
use Rattle.std.specs.Prelude.{List, [], ◌∷◌, Option, Some, None, not, ◌==◌}
use Rattle.ir_core.specs.declared.types.Ty.{Ty}
use Rattle.ir_core.specs.declared.refusal.Construct.{Construct}
use Rattle.ir_core.specs.declared.refusal.Construct.TheVariants.{MissingName, TypeMismatch, IndirectCall}
use Rattle.ir_core.specs.Typing.{expects}
use Rattle.name_tables.specs.declared.locals.Local.{Local}
use Rattle.name_tables.specs.declared.locals.Local.TheVariants.{Register, Label}
use Rattle.name_tables.specs.Kept.{is_of}

abbrev pub as_kept : Ty → Option Local → List Construct
as_kept ty None = MissingName ∷ []
as_kept ty (Some (Register scalar)) = expects (is_of scalar ty)
as_kept ty (Some (Label place)) = TypeMismatch ∷ []

abbrev pub kept_target : Option Local → List Construct
kept_target None = MissingName ∷ []
kept_target (Some (Register scalar)) = TypeMismatch ∷ []
kept_target (Some (Label place)) = expects (not (place == 0))

abbrev pub kept_callee : Option Local → List Construct
kept_callee None = MissingName ∷ IndirectCall ∷ []
kept_callee (Some (Register scalar)) = IndirectCall ∷ []
kept_callee (Some (Label place)) = TypeMismatch ∷ IndirectCall ∷ []
