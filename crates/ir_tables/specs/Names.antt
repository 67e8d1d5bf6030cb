-- Tables of names: where each name of a list first stands.
use Rattle.std.specs.Prelude.{◌≡◌, ℕ, List, [], ◌∷◌, ◌++◌, map, length, Option}
use Rattle.std.specs.List.{flat_map}
use Rattle.std.specs.Borrow.{Bor}
use Rattle.std.specs.Str.{bytes_eq}
use Rattle.std.specs.declared.alloc.Global.{Global}
use Rattle.std.specs.declared.vec.Vec.{Vec}
use Rattle.indexmap.specs.IndexMap.{IndexMap, get_by}
use Rattle.ir_core.specs.Places.{place_in, param_name, block_name, block_results}
use Rattle.ir_core.specs.declared.module.Function.{Function}
use Rattle.ir_core.specs.declared.module.TypeDef.{TypeDef}
use Rattle.ir_tables.specs.declared.names.Locals.{Locals}

abbrev pub type_name : TypeDef → List ℕ
type_name d = d.name

-- the names that a list of slices has
abbrev pub names_seen : List (Bor (List ℕ)) → List (List ℕ)
names_seen names = map (λ (n : Bor (List ℕ)). n.now) names

-- the place that a table has for a name
abbrev pub found_place : {S : Type 0} → IndexMap (Vec ℕ Global) ℕ S → List ℕ → Option ℕ
found_place table x = get_by (λ (k : Vec ℕ Global). bytes_eq x k.items) table

-- a table has the first place of each name of a list, and no other name
abbrev pub HasPlaces : {S : Type 0} → List (List ℕ) → IndexMap (Vec ℕ Global) ℕ S → Type 0
HasPlaces names table = (x : List ℕ) → found_place table x ≡ place_in names x

-- the names of a function
pub record AreLocals (f : Function) (l : Locals) : Type 0 where
  pub registers : HasPlaces (map param_name f.params ++ flat_map block_results f.blocks) l.registers
  pub blocks : HasPlaces (map block_name f.blocks) l.blocks
  pub count : l.count ≡ length (map param_name f.params ++ flat_map block_results f.blocks)

-- the names of each function, at its place
abbrev pub AreAllLocals : List Function → List Locals → Type 0
AreAllLocals [] [] = Unit {0}
AreAllLocals [] (l ∷ ls) = ⊥
AreAllLocals (f ∷ fs) [] = ⊥
AreAllLocals (f ∷ fs) (l ∷ ls) = AreLocals f l × AreAllLocals fs ls
