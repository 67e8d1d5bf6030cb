-- The registers of all functions of a module, numbered from 0, one function after another.
use Rattle.std.specs.Prelude.{◌≡◌, ◌+◌, ℕ, List, length, take, Option, option_map, Some, slice_get}
use Rattle.std.specs.List.{flat_map}
use Rattle.ir_core.specs.declared.module.Function.{Function}
use Rattle.ir_core.specs.declared.module.Module.{Module}
use Rattle.ir_core.specs.Places.{Name, place_in, register_names, register_names_of}

abbrev pub names_of : Function → List Name
names_of f = register_names_of (Some f)

-- how many registers the functions before a place have
abbrev pub before : Module → ℕ → ℕ
before m at = length (flat_map names_of (take at m.functions))

-- how many there are in all
abbrev pub register_count : Module → ℕ
register_count m = length (flat_map names_of m.functions)

-- the number of a register of the function at a place
abbrev pub number_of : Module → ℕ → Name → Option ℕ
number_of m at x = option_map (λ place. before m at + place) (place_in (register_names m at) x)

-- for each function the number of its first register
abbrev pub AreStarts : Module → List ℕ → Type 0
AreStarts m starts = (length starts ≡ length m.functions) × ((at n : ℕ) → slice_get starts at ≡ Some n → n ≡ before m at)
