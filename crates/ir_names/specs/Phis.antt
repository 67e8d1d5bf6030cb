-- The entries of a phi.
use Rattle.std.specs.Prelude.{List, [], ◌∷◌, Bool, true, Option, Some, None}
use Rattle.std.specs.List.{find}
use Rattle.std.specs.Str.{bytes_eq}
use Rattle.ir_core.specs.declared.instructions.Edge.{Edge}
use Rattle.ir_core.specs.declared.refusal.Construct.{Construct}
use Rattle.ir_core.specs.declared.refusal.Construct.TheVariants.{MissingName, TypeMismatch}
use Rattle.ir_core.specs.Places.{Name}
use Rattle.ir_core.specs.Typing.{same_value}
use Rattle.name_tables.specs.declared.locals.Local.{Local}
use Rattle.name_tables.specs.declared.locals.Local.TheVariants.{Register, Label}

abbrev pub edge_block : Edge → Name
edge_block e = e.block

abbrev pub has_value_of : Edge → Option Edge → Bool
has_value_of e None = true
has_value_of e (Some first) = same_value e.value first.value

-- an entry has the value of the first one from its block
abbrev pub agrees_with_first : List Edge → Edge → Bool
agrees_with_first edges e = has_value_of e (find (λ d. bytes_eq (edge_block d) e.block) edges)

-- what is refused of an entry's block, by what is kept of its name
abbrev pub kept_block : Option Local → List Construct
kept_block None = MissingName ∷ []
kept_block (Some (Register scalar)) = TypeMismatch ∷ []
kept_block (Some (Label place)) = []
