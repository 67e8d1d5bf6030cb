-- Names that are given twice, by the places that a table has for them.
use Rattle.std.specs.Prelude.{ℕ, List, [], ◌∷◌, Bool, false, Option, Some, None, nat_lt, if◌then◌else◌}
use Rattle.ir_core.specs.declared.refusal.Refusal.{Refusal}
use Rattle.ir_core.specs.declared.refusal.Construct.TheVariants.{DuplicateName}
use Rattle.ir_core.specs.NameRefusals.{at}
use Rattle.ir_core.specs.Places.{Name}
use Rattle.name_tables.specs.Kept.{Kept}

-- the name of an entry, which has a name and a line
abbrev pub entry_name : Name × ℕ → Name
entry_name e = e.0

-- a name and its line, of what is kept
abbrev pub kept_entry : Kept → Name × ℕ
kept_entry k = (k.0, k.1)

-- a place behind the first one
abbrev pub is_second : Option ℕ → ℕ → Bool
is_second None place = false
is_second (Some first) place = nat_lt first place

abbrev pub if_second : Bool → ℕ → List Refusal
if_second second line = if second then at line (DuplicateName ∷ []) else []
