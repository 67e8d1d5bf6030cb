-- Names that nothing has yet.
use Rattle.std.specs.Prelude.{◌≡◌, ℕ, zero, suc, List, ◌∷◌, ◌++◌, length, decimal, map, if◌then◌else◌}
use Rattle.std.specs.List.{flat_map}
use Rattle.ir_core.specs.declared.module.Block.{Block}
use Rattle.ir_core.specs.declared.module.Function.{Function}
use Rattle.ir_core.specs.Places.{Name, param_name, block_results}
use Rattle.ir_core.specs.Wrappers.{is_in}
use Rattle.ir_tables.specs.Names.{HasPlaces}
use Rattle.state_machine.specs.declared.names.Taken.{Taken}

-- ---- the names of a function: those of its parameters, of its blocks and of its registers

abbrev pub block_names : Block → List Name
block_names b = b.name ∷ block_results b

abbrev pub taken_names : Function → List Name
taken_names f = map param_name f.params ++ flat_map block_names f.blocks

-- a table of these names, with their number
abbrev pub IsTaken : List Name → Taken → Type 0
IsTaken names t = HasPlaces names t.table × (t.count ≡ length names)

-- ---- fresh ones

-- a stem with a number behind a point
abbrev pub numbered : Name → ℕ → Name
numbered stem n = stem ++ 46 ∷ decimal n

-- the least number from n on, of so many and one more, with which the stem isn't among these names
abbrev pub least_free : List Name → Name → ℕ → ℕ → ℕ
least_free taken stem n zero = n
least_free taken stem n (suc more) = if is_in taken (numbered stem n) then least_free taken stem (suc n) more else n

-- the stem, or where that is taken the stem with the least free number from 1 on
abbrev pub fresh : List Name → Name → Name
fresh taken stem = if is_in taken stem then numbered stem (least_free taken stem 1 (length taken)) else stem
