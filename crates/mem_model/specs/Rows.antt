-- The blocks of a memory, as rows of those whose names are counted and a tree of all others.
use Rattle.std.specs.Prelude.{◌≡◌, ℕ, zero, suc, nat_eq, List, [], ◌∷◌, ◌++◌, Option, Some, None, Bool, true, false, cond, slice_get}
use Rattle.std.specs.Option.{OnSome, option_flatten}
use Rattle.std.specs.Borrow.{LendsSo, MutBor, Fml}
use Rattle.std.specs.Map.{lookup}
use Rattle.std.specs.Ordering.{eq_by_cmp}
use Rattle.mem_model.specs.declared.memory.BlockName.{BlockName}
use Rattle.mem_model.specs.declared.memory.BlockName.TheVariants.{Arg, Global, Heap, Stack, Captures, Code}
use Rattle.mem_model.specs.declared.block.Block.{Block}
use Rattle.mem_model.specs.declared.blocks.Row.{Row}
use Rattle.mem_model.specs.declared.blocks.Blocks.{Blocks}
use Rattle.mem_model.specs.contracts.block.Block as block
use Rattle.mem_model.specs.contracts.blocks.Row as row
use Rattle.mem_model.specs.contracts.blocks.Blocks as blocks
use Rattle.mem_model.specs.Blocks.{block_cmp, same_block}

-- ---- one row

-- the block at a number
abbrev pub in_slots : List (Option Block) → ℕ → Option Block
in_slots slots number = option_flatten (slice_get slots number)

-- the block is at the number, and every other number has what it had
abbrev pub Puts : List (Option Block) → ℕ → Block → List (Option Block) → Type 0
Puts old number b new = (k : ℕ) → in_slots new k ≡ cond (nat_eq number k) (Some b) (in_slots old k)

abbrev pub SameSlots : List (Option Block) → List (Option Block) → Type 0
SameSlots old new = (k : ℕ) → in_slots new k ≡ in_slots old k

-- the row ends with what is written at the number, and at none as it was
abbrev pub LendsSlot : MutBor Row → ℕ → Option (MutBor Block) → Fml
LendsSlot s number r = LendsSo row.the_row block.the_row s r (λ n w. OnSome r (Puts s.now.slots.items number w n.slots.items)) (λ n. SameSlots s.now.slots.items n.slots.items)

-- ---- all blocks

-- the block of a name
abbrev pub block_in : Blocks → BlockName → Option Block
block_in b (Arg n) = in_slots b.args.slots.items n
block_in b (Global n) = in_slots b.globals.slots.items n
block_in b (Heap n) = in_slots b.heap.slots.items n
block_in b (Stack t n) = lookup (eq_by_cmp block_cmp (Stack t n)) b.others.entries
block_in b Captures = lookup (eq_by_cmp block_cmp Captures) b.others.entries
block_in b (Code n) = lookup (eq_by_cmp block_cmp (Code n)) b.others.entries

pub record IsEmpty (b : Blocks) : Type 0 where
  pub args : b.args.slots.items ≡ []
  pub globals : b.globals.slots.items ≡ []
  pub heap : b.heap.slots.items ≡ []
  pub others : b.others.entries ≡ []

-- the block has the name, and every other name has what it had
abbrev pub HasPut : Blocks → BlockName → Block → Blocks → Type 0
HasPut old name b new = (q : BlockName) → block_in new q ≡ cond (same_block name q) (Some b) (block_in old q)

abbrev pub SameBlocks : Blocks → Blocks → Type 0
SameBlocks old new = (q : BlockName) → block_in new q ≡ block_in old q

-- the blocks end with what is written under the name, and at none as they were
abbrev pub LendsBlock : MutBor Blocks → BlockName → Option (MutBor Block) → Fml
LendsBlock s name r = LendsSo blocks.the_row block.the_row s r (λ n w. OnSome r (HasPut s.now name w n)) (λ n. SameBlocks s.now n)

-- ---- as names with their blocks

-- the blocks of a row, whose numbers this makes names of
abbrev pub row_entries : (ℕ → BlockName) → List (Option Block) → List (BlockName × Block)
row_entries kind [] = []
row_entries kind (None ∷ slots) = row_entries (λ n. kind (suc n)) slots
row_entries kind (Some b ∷ slots) = (kind zero, b) ∷ row_entries (λ n. kind (suc n)) slots

abbrev pub is_counted : BlockName → Bool
is_counted (Arg n) = true
is_counted (Global n) = true
is_counted (Heap n) = true
is_counted (Stack t n) = false
is_counted Captures = false
is_counted (Code n) = false

abbrev pub uncounted : List (BlockName × Block) → List (BlockName × Block)
uncounted [] = []
uncounted (e ∷ es) = cond (is_counted e.0) (uncounted es) (e ∷ uncounted es)

unfoldable pub entries_of : Blocks → List (BlockName × Block)
entries_of b = row_entries Arg b.args.slots.items ++ (row_entries Global b.globals.slots.items ++ (row_entries Heap b.heap.slots.items ++ uncounted b.others.entries))
