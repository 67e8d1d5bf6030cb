-- The blocks that branch to a block, in a table.
use Rattle.std.specs.Prelude.{◌≡◌, ℕ, List, [], ◌∷◌, ◌++◌, Option, Some, None, if◌then◌else◌}
use Rattle.std.specs.List.{flat_map}
use Rattle.std.specs.Borrow.{Bor}
use Rattle.std.specs.Str.{bytes_eq}
use Rattle.indexmap.specs.IndexMap.{IndexMap, get_by}
use Rattle.indexmap.specs.IndexSet.{IndexSet}
use Rattle.ir_tables.specs.Names.{names_seen}
use Rattle.ir_core.specs.Places.{Name}
use Rattle.ir_core.specs.Wrappers.{is_in}
use Rattle.ir_core.specs.declared.instructions.Case.{Case}
use Rattle.ir_core.specs.declared.module.Block.{Block}
use Rattle.ir_core.specs.Typing.{goes_to}
use Rattle.ir_names.specs.declared.branches.Body.TheInside.{Inside}

abbrev pub case_block : Case → Name
case_block c = c.block

abbrev pub set_names : {T : Type 0} → Option (IndexSet (Bor (List ℕ)) T) → List Name
set_names None = []
set_names (Some set) = names_seen set.keys

-- the blocks that a table has for a target
abbrev pub sources : {S T : Type 0} → IndexMap (Bor (List ℕ)) (IndexSet (Bor (List ℕ)) T) S → Name → List Name
sources table x = set_names (get_by (λ (k : Bor (List ℕ)). bytes_eq x k.now) table)

-- a block where it branches to one of these targets
abbrev pub if_target : Name → List Name → Name → List Name
if_target block targets x = if is_in targets x then block ∷ [] else []

-- a block more, which branches to these targets
abbrev pub Grows : {S T : Type 0} → Name → List Name → (old new : IndexMap (Bor (List ℕ)) (IndexSet (Bor (List ℕ)) T) S) → Type 0
Grows block targets old new = (x y : Name) → is_in (sources new x) y ≡ is_in (sources old x ++ if_target block targets x) y

-- for each target the blocks that branch there, and no other
abbrev pub HasSources : {S T : Type 0} → List Block → IndexMap (Bor (List ℕ)) (IndexSet (Bor (List ℕ)) T) S → Type 0
HasSources blocks table = (x y : Name) → is_in (sources table x) y ≡ is_in (flat_map (goes_to x) blocks) y

abbrev pub IsBody : Inside → Type 0
IsBody b = HasSources b.scope.1.blocks b.sources
