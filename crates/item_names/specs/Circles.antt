-- Types that contain themselves, by the places of their parts.
use Rattle.std.specs.Prelude.{ℕ, zero, suc, ◌+◌, List, [], ◌∷◌, ◌++◌, map, slice_get, slice_set, Bool, true, false, Option, Some, None, nat_lt, nat_le, ◌==◌, ◌&&◌, not, if◌then◌else◌}
use Rattle.std.specs.List.{flat_map, list_all, list_any}
use Rattle.std.specs.declared.alloc.Global.{Global}
use Rattle.std.specs.declared.vec.Vec.{Vec}
use Rattle.indexmap.specs.IndexMap.{IndexMap}
use Rattle.ir_core.specs.declared.module.TypeDef.{TypeDef}
use Rattle.ir_core.specs.Given.{names_in}
use Rattle.ir_core.specs.Places.{Name}
use Rattle.ir_tables.specs.Names.{found_place}

-- ---- the places of the types that have some names

abbrev pub listed : Option ℕ → List ℕ
listed None = []
listed (Some place) = place ∷ []

-- the places that a table has
abbrev pub found_places : {S : Type 0} → IndexMap (Vec ℕ Global) ℕ S → List Name → List ℕ
found_places table xs = flat_map (λ x. listed (found_place table x)) xs

-- for each type the places of its parts
abbrev pub found_parts : {S : Type 0} → IndexMap (Vec ℕ Global) ℕ S → List TypeDef → List (List ℕ)
found_parts table types = map (λ d. found_places table (names_in d.body)) types

-- ---- ways from parts to parts

abbrev pub or_none : Option (List ℕ) → List ℕ
or_none None = []
or_none (Some places) = places

abbrev pub parts_at : List (List ℕ) → ℕ → List ℕ
parts_at parts at = or_none (slice_get parts at)

abbrev pub has : ℕ → List ℕ → Bool
has q places = list_any (λ r. r == q) places

-- in so many steps or fewer a type leads to the one at a place
abbrev pub leads : List (List ℕ) → (to steps at : ℕ) → Bool
leads parts to zero at = at == to
leads parts to (suc steps) at = if at == to then true else list_any (leads parts to steps) (parts_at parts at)

-- ---- types that were seen, and those that were seen last

abbrev pub is_marked : Option Bool → Bool
is_marked None = false
is_marked (Some b) = b

abbrev pub marked : List Bool → ℕ → Bool
marked seen q = is_marked (slice_get seen q)

abbrev pub mark_if : Option Bool → List Bool × List ℕ → ℕ → List Bool × List ℕ
mark_if (Some false) s q = (slice_set s.0 q true, s.1 ++ q ∷ [])
mark_if _ s q = s

abbrev pub mark : List Bool × List ℕ → ℕ → List Bool × List ℕ
mark s q = mark_if (slice_get s.0 q) s q

-- ---- ranks

abbrev pub or_zero : Option ℕ → ℕ
or_zero None = 0
or_zero (Some rank) = rank

abbrev pub rank_at : List ℕ → ℕ → ℕ
rank_at ranks at = or_zero (slice_get ranks at)

-- no part has a greater rank than the type at a place
abbrev pub are_below : List ℕ → ℕ → List ℕ → Bool
are_below ranks at places = list_all (λ q. not (nat_lt (rank_at ranks at) (rank_at ranks q))) places

abbrev pub descends_from : ℕ → List (List ℕ) → List ℕ → Bool
descends_from at [] ranks = true
descends_from at (places ∷ parts) ranks = are_below ranks at places && descends_from (at + 1) parts ranks

abbrev pub may_lead : List ℕ → ℕ → List ℕ → Bool
may_lead ranks at places = list_any (λ q. nat_le (rank_at ranks at) (rank_at ranks q)) places
