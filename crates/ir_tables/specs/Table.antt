-- The layouts of named types, and how a table finds them.
use Rattle.std.specs.Prelude.{◌≡◌, ℕ, suc, ◌<◌, List, [], ◌∷◌, length, slice_get, slice_set, Bool, true, false, Option, Some, None, option_map, option_and_then}
use Rattle.std.specs.Str.{bytes_eq}
use Rattle.indexmap.specs.IndexMap.{get_by}
use Rattle.ir_core.specs.declared.types.Ty.{Ty, out-Ty}
use Rattle.ir_core.specs.declared.types.Ty.TheOpen.{Ty-F}
use Rattle.ir_core.specs.declared.module.TypeDef.{TypeDef}
use Rattle.ir_core.specs.Layout.{Layout, Parts, NoParts, layer_parts, body_of, named_layout, named_parts}
use Rattle.ir_tables.specs.declared.laid.Laid.{Laid}
use Rattle.ir_tables.specs.declared.table.Place.{Place}
use Rattle.ir_tables.specs.declared.table.Place.TheVariants.{Once, Twice}
use Rattle.ir_tables.specs.declared.table.Known.{Known}
use Rattle.ir_tables.specs.declared.table.Places.{Places}
use Rattle.ir_tables.specs.declared.table.Table.{Table}
use Rattle.ir_tables.specs.Laid.{Keeps, laid_of}

-- ---- places of names

abbrev pub only_place : Place → Option ℕ
only_place (Once at) = Some at
only_place Twice = None

-- the place of a name that is given at a place, where it has one already
abbrev pub next_place : ℕ → Option Place → Place
next_place at None = Once at
next_place at (Some place) = Twice

-- where the one type of a name stands
abbrev pub place_of : Places → List ℕ → Option ℕ
place_of places x = option_and_then only_place (get_by (λ k. bytes_eq x k.items) places.places)

abbrev pub body_at : List TypeDef → ℕ → Option Ty
body_at types at = option_map (λ (d : TypeDef). d.body) (slice_get types at)

-- each name's place is that of the one type of the name
abbrev pub ArePlaces : List TypeDef → Places → Type 0
ArePlaces types places = (x : List ℕ) → body_of types x ≡ option_and_then (body_at types) (place_of places x)

-- ---- what is known of the types

abbrev pub known_at : List (Option Known) → ℕ → Option Known
known_at known at = option_and_then (λ (o : Option Known). o) (slice_get known at)

abbrev pub known_of : Table → List ℕ → Option Known
known_of table x = option_and_then (known_at table.known) (place_of table.places x)

abbrev pub known_laid : Table → List ℕ → Option Laid
known_laid table x = option_map (λ (k : Known). k.laid) (known_of table x)

abbrev pub end_or : ℕ → Option Known → ℕ
end_or at None = at
end_or at (Some known) = known.end

abbrev pub layer_end : Table → ℕ → Ty-F Ty → ℕ
layer_end table at (Ty-F.Named x) = end_or at (known_of table x)
layer_end table at _ = at

-- what the table gives for the type at a place
abbrev pub found_at : Table → ℕ → Ty → Option Known
found_at table at body = option_map (λ (laid : Laid). record { laid = laid; end = layer_end table at (out-Ty body) }) (laid_of (known_laid table) body)

-- ---- parts

-- what an index goes into in a type that isn't a name
abbrev pub own_parts : Option Ty → Parts
own_parts None = NoParts
own_parts (Some ty) = layer_parts (λ (x : List ℕ). NoParts) (out-Ty ty)

abbrev pub end_parts : List TypeDef → Option Known → Parts
end_parts types None = NoParts
end_parts types (Some known) = own_parts (body_at types known.end)

-- ---- a table that is right

-- what is known of a name, with names looked through so deep
abbrev pub Knows : List TypeDef → ℕ → List ℕ → Known → Type 0
Knows types depth x known = (l : Layout) × (named_layout depth types x ≡ Some l) × Keeps known.laid l × (named_parts depth types x ≡ own_parts (body_at types known.end))

abbrev pub KnowsAll : List TypeDef → ℕ → List ℕ → Option Known → Type 0
KnowsAll types depth x None = named_layout depth types x ≡ None
KnowsAll types depth x (Some known) = Knows types depth x known

-- the table has the layout of each name that has one
abbrev pub IsTable : List TypeDef → Table → Type 0
IsTable types table = (x : List ℕ) → KnowsAll types (length types) x (known_of table x)

-- ---- a table that grows

-- how many types have been laid out
abbrev pub count : List (Option Known) → ℕ
count [] = 0
count (None ∷ known) = count known
count (Some k ∷ known) = suc (count known)

abbrev pub open_in : Option (Option Known) → Bool
open_in (Some None) = true
open_in _ = false

-- whether a type stands at a place that isn't laid out
abbrev pub is_open : List (Option Known) → ℕ → Bool
is_open known at = open_in (slice_get known at)

-- what is in the table is right
pub record IsSound (types : List TypeDef) (table : Table) : Type 0 where
  pub places : ArePlaces types table.places
  pub size : length table.known ≡ length types
  pub right : (x : List ℕ) (known : Known) → known_of table x ≡ Some known → Knows types (count table.known) x known

-- nothing is left to lay out at a place
abbrev pub IsSettled : List TypeDef → Table → ℕ → Type 0
IsSettled types table at = (body : Ty) → body_at types at ≡ Some body → slice_get table.known at ≡ Some None → laid_of (known_laid table) body ≡ None

-- whether a type was laid out, and what the table is then
abbrev pub LaysOut : List TypeDef → Table → Table → ℕ → Bool → Type 0
LaysOut types old new at true = (body : Ty) × (known : Known) × (body_at types at ≡ Some body) × (slice_get old.known at ≡ Some None) × (found_at old at body ≡ Some known) × (new ≡ record old { known = slice_set old.known at (Some known) })
LaysOut types old new at false = (new ≡ old) × IsSettled types old at

-- whether some type was laid out
abbrev pub Grows : List TypeDef → Table → Table → Bool → Type 0
Grows types old new true = count old.known < count new.known
Grows types old new false = (new ≡ old) × ((at : ℕ) → IsSettled types old at)
