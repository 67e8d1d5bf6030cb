-- The construct of the least number.
use Rattle.std.specs.Prelude.{ℕ, List, [], ◌∷◌, Option, Some, None, nat_lt, if◌then◌else◌}
use Rattle.ir_core.specs.declared.refusal.Construct.{Construct}
use Rattle.ir_core.specs.declared.refusal.Refusal.{Refusal}
use Rattle.ir_core.specs.NameRefusals.{lesser}
use Rattle.ir_core.specs.Notes.{construct_number}

abbrev pub lesser_of : Construct → Option Construct → Option Construct
lesser_of c None = Some c
lesser_of c (Some d) = if nat_lt (construct_number d) (construct_number c) then Some d else Some c

abbrev pub or_lesser : Option Construct → Option Construct → Option Construct
or_lesser None b = b
or_lesser (Some c) b = lesser_of c b

abbrev pub least_of : List Construct → Option Construct
least_of [] = None
least_of (c ∷ cs) = lesser_of c (least_of cs)

abbrev pub or_first : Option Refusal → Option Refusal → Option Refusal
or_first None s = s
or_first (Some r) s = lesser r s

abbrev pub at_line : ℕ → Option Construct → Option Refusal
at_line line None = None
at_line line (Some c) = Some (record { construct = c; line = line })
