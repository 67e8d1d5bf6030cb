-- A search over a graph: a row of marks, and the nodes that are marked and wait to be followed.
use Rattle.std.specs.Prelude.{◌≡◌, ℕ, ◌+◌, ◌≤◌, List, [], ◌∷◌, ◌++◌, length, vec_len, vec_capacity, Bool, true, cond, ◌⊎◌, Option, None, Some, slice_get}
use Rattle.reach.specs.declared.search.Search.{Search}

-- the node has a mark
abbrev pub IsMarked : List Bool → ℕ → Type 0
IsMarked marks node = slice_get marks node ≡ Some true

-- the node stands somewhere in the list
abbrev pub IsAmong : List ℕ → ℕ → Type 0
IsAmong nodes node = (place : ℕ) × (slice_get nodes place ≡ Some node)

-- how many nodes have no mark yet
abbrev pub unmarked : List Bool → ℕ
unmarked [] = 0
unmarked (mark ∷ marks) = cond mark 0 1 + unmarked marks

-- what a search knows once these nodes are marked, too: those that had no mark wait
pub record Spread (marks : List Bool) (waiting nodes : List ℕ) (new_marks : List Bool) (new_waiting : List ℕ) : Type 0 where
  pub size : length new_marks ≡ length marks
  pub kept : (node : ℕ) → IsMarked marks node → IsMarked new_marks node
  pub all : (node : ℕ) → IsAmong nodes node → IsMarked new_marks node
  pub only : (node : ℕ) → IsMarked new_marks node → IsMarked marks node ⊎ IsAmong nodes node
  pub fresh : (node : ℕ) → IsMarked new_marks node → IsMarked marks node ⊎ IsAmong new_waiting node
  pub waits : (node : ℕ) → IsAmong waiting node → IsAmong new_waiting node
  pub comes : (node : ℕ) → IsAmong new_waiting node → IsAmong waiting node ⊎ IsAmong nodes node
  pub room : unmarked new_marks + length new_waiting ≡ unmarked marks + length waiting

-- the same of the search before and after
abbrev pub Spreads : Search → List ℕ → Search → Type 0
Spreads old nodes new = Spread old.marks.items old.waiting.items nodes new.marks.items new.waiting.items

-- there is room for each node that may still come to wait
abbrev pub HasRoom : Search → Type 0
HasRoom search = unmarked search.marks.items + vec_len search.waiting ≤ vec_capacity search.waiting

-- the last of those that waited, if any did, and the rest
abbrev pub IsTaken : List ℕ → Option ℕ → List ℕ → Type 0
IsTaken waiting None rest = waiting ≡ []
IsTaken waiting (Some node) rest = waiting ≡ rest ++ node ∷ []
