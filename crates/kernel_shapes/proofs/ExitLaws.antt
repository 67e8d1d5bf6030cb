-- Whether a branch goes to a block.
use Rattle.std.proofs.Common.{◌≡◌, List, [], ◌∷◌, Bool, true, false, ◌||◌, map, refl, ap, ◌∙◌, if◌then◌else◌}
use Rattle.std.specs.List.{list_any}
use Rattle.std.specs.Str.{bytes_eq}
use Rattle.ir_core.specs.declared.instructions.Case.{Case}
use Rattle.ir_core.specs.Places.{Name}
use Rattle.ir_core.specs.Wrappers.{is_in}
use Rattle.kernel_shapes.specs.Seen.{case_block}

or_is : (b c : Bool) → (b || c) ≡ (if b then true else c)
or_is true c = refl
or_is false c = refl

abbrev pub goes_by : Name → Case → Bool
goes_by x c = bytes_eq x c.block

pub among_cases : (x : Name) (cases : List Case) → list_any (goes_by x) cases ≡ is_in (map case_block cases) x
among_cases x [] = refl
among_cases x (c ∷ cs) = ap (λ b. bytes_eq x c.block || b) (among_cases x cs) ∙ or_is (bytes_eq x c.block) (is_in (map case_block cs) x)

pub to_one : (x to : Name) → bytes_eq x to ≡ is_in (to ∷ []) x
to_one x to = elim (bytes_eq x to) as (λ (b : Bool). b ≡ (if b then true else false)) [ true ↦ refl | false ↦ refl ]
