-- Graphs over numbered nodes, and which nodes are reached in them.
use Rattle.std.specs.Prelude.{◌≡◌, ℕ, ◌<◌, List, [], ◌∷◌, ◌++◌, length, Bool, true, Some, slice_get, slice_set, slice_index_or}
use Rattle.reach.specs.Chains.{Leads}

-- one of the nodes that a node hops to
abbrev pub HopsTo : List (List ℕ) → ℕ → ℕ → Type 0
HopsTo hops from to = (targets : List ℕ) × (place : ℕ) × (slice_get hops from ≡ Some targets) × (slice_get targets place ≡ Some to)

-- each node that is hopped to is one of the graph
abbrev pub HopsWithin : List (List ℕ) → Type 0
HopsWithin hops = (from to : ℕ) → HopsTo hops from to → to < length hops

-- the graph with one more hop, behind those that the node has
abbrev pub hop_added : List (List ℕ) → ℕ → ℕ → List (List ℕ)
hop_added hops from to = slice_set hops from (slice_index_or hops from [] ++ to ∷ [])

-- a chain of hops leads from one of the roots to the node
abbrev pub IsReached : List (List ℕ) → List ℕ → ℕ → Type 0
IsReached hops roots node = (root place : ℕ) × (slice_get roots place ≡ Some root) × Leads (HopsTo hops) root node

-- there is a mark for each node, and it is true exactly where the node is reached
pub record Marks (hops : List (List ℕ)) (roots : List ℕ) (marks : List Bool) : Type 0 where
  pub size : length marks ≡ length hops
  pub reached : (node : ℕ) → slice_get marks node ≡ Some true → IsReached hops roots node
  pub whole : (node : ℕ) → IsReached hops roots node → slice_get marks node ≡ Some true
