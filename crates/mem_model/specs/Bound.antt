-- How many steps a pass may make of a run.
use Rattle.std.specs.Prelude.{ℕ, ◌+◌, ◌*◌}

-- what is counted: the region threads of the launch, the wrappers of the input module, and the most captures of one of them
pub record Counted : Type 0 where
  pub threads : ℕ
  pub wrappers : ℕ
  pub captures : ℕ

-- for a source run of m steps
abbrev pub whole_bound : Counted → ℕ → ℕ
whole_bound c m = (c.threads + 1) * (512 + 32 * c.wrappers + 128 * c.captures) * (m + 2)

-- idle regions, heap to stack, fold, and fewer barriers
abbrev pub same_bound : ℕ → ℕ
same_bound m = m

abbrev pub merge_bound : ℕ → ℕ
merge_bound m = 6 * m + 6

-- a customised machine, or a generic kernel without one
abbrev pub machine_bound : Counted → ℕ → ℕ
machine_bound c m = (c.threads + 1) * (48 + 4 * c.wrappers + 16 * c.captures) * (m + 1)

abbrev pub mark_bound : Counted → ℕ → ℕ
mark_bound c m = (c.threads + 1) * 8 * (m + 1)

abbrev pub expand_bound : ℕ → ℕ
expand_bound m = 4 * m + 4
