-- Blocks that a memory doesn't have yet.
use Rattle.std.specs.Prelude.{◌≡◌, ℕ, ◌≤◌, None}
use Rattle.std.specs.FinMap as fin
use Rattle.mem_model.specs.declared.memory.BlockName.TheVariants.{Arg, Global}
use Rattle.mem_model.specs.Memory.{Memory}

-- no buffer of an argument from this number on
abbrev pub HasNoArgs : Memory → ℕ → Type 0
HasNoArgs m from = (n : ℕ) → from ≤ n → fin.get m.blocks (Arg n) ≡ None

-- no global from this number on
abbrev pub HasNoGlobals : Memory → ℕ → Type 0
HasNoGlobals m from = (n : ℕ) → from ≤ n → fin.get m.blocks (Global n) ≡ None
