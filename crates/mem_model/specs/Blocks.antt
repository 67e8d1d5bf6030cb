-- The orders of block names and of places in memory.
use Rattle.std.specs.Prelude.{ℕ, ◌==◌, ◌&&◌, Bool, false}
use Rattle.std.specs.Ordering.{nat_cmp, int_eq, is_eq, ordering_then}
use Rattle.std.specs.declared.cmp.Ordering.{Ordering}
use Rattle.mem_model.specs.declared.memory.BlockName.{BlockName}
use Rattle.mem_model.specs.declared.memory.BlockName.TheVariants.{Arg, Global, Heap, Stack, Captures, Code}
use Rattle.mem_model.specs.declared.memory.Ptr.{Ptr}
use Rattle.mem_model.specs.declared.memory.Ptr.TheVariants.{Num, At}

-- a block's name as three numbers
abbrev pub block_code : BlockName → ℕ × (ℕ × ℕ)
block_code (Arg n) = (0, (n, 0))
block_code (Global n) = (1, (n, 0))
block_code (Heap n) = (2, (n, 0))
block_code (Stack t n) = (3, (t, n))
block_code Captures = (4, (0, 0))
block_code (Code n) = (5, (n, 0))

abbrev pub code_cmp : ℕ × (ℕ × ℕ) → ℕ × (ℕ × ℕ) → Ordering
code_cmp x y = ordering_then (nat_cmp x.0 y.0) (ordering_then (nat_cmp x.1.0 y.1.0) (nat_cmp x.1.1 y.1.1))

abbrev pub block_cmp : BlockName → BlockName → Ordering
block_cmp a b = code_cmp (block_code a) (block_code b)

-- a byte's place: its block, and the offset there
abbrev pub place_cmp : BlockName × ℕ → BlockName × ℕ → Ordering
place_cmp x y = ordering_then (block_cmp x.0 y.0) (nat_cmp x.1 y.1)

abbrev pub same_block : BlockName → BlockName → Bool
same_block a b = is_eq (block_cmp a b)

-- the same number, or the same block and offset
abbrev pub same_ptr : Ptr → Ptr → Bool
same_ptr (Num m) (Num n) = m == n
same_ptr (At a o) (At b p) = same_block a b && int_eq o p
same_ptr _ _ = false
