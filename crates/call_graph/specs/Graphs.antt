-- Graphs of a relation, and marks of a property, over the places of a module's functions.
use Rattle.std.specs.Prelude.{◌≡◌, ℕ, List, length, Bool, true, ◌⊎◌, Some, slice_get, ◌↔◌}
use Rattle.reach.specs.Marks.{HopsTo}
use Rattle.reach.specs.Searches.{IsAmong}

-- a graph of so many nodes, which has the hops of the relation and no other
pub record IsGraphOf (Hop : ℕ → ℕ → Type 0) (nodes : ℕ) (hops : List (List ℕ)) : Type 0 where
  pub size : length hops ≡ nodes
  pub same : (from to : ℕ) → HopsTo hops from to ↔ Hop from to

-- the graph has the hops that it had, and hops from one node to each of these
pub record Adds (from : ℕ) (row : List ℕ) (old new : List (List ℕ)) : Type 0 where
  pub size : length new ≡ length old
  pub same : (a b : ℕ) → HopsTo new a b ↔ (HopsTo old a b ⊎ ((a ≡ from) × IsAmong row b))

-- the mark of a place is true exactly where it has the property
pub record AreMarksOf (Holds : ℕ → Type 0) (places : ℕ) (marks : List Bool) : Type 0 where
  pub size : length marks ≡ places
  pub same : (at : ℕ) → (slice_get marks at ≡ Some true) ↔ Holds at

-- the places in the list are those that have the property
abbrev pub ArePlacesOf : (ℕ → Type 0) → List ℕ → Type 0
ArePlacesOf Holds places = (at : ℕ) → IsAmong places at ↔ Holds at
