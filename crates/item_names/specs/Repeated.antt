-- Where a name of a list stands first by line.
use Rattle.std.specs.Prelude.{◌≡◌, ℕ, ◌+◌, List, [], ◌∷◌, map, Bool, false, Option, Some, None, nat_lt, ◌==◌, if◌then◌else◌}
use Rattle.std.specs.Borrow.{Bor}
use Rattle.std.specs.Str.{bytes_eq}
use Rattle.indexmap.specs.IndexMap.{IndexMap, get_by}
use Rattle.ir_core.specs.declared.module.TypeDef.{TypeDef}
use Rattle.ir_core.specs.declared.module.Global.{Global as GlobalItem}
use Rattle.ir_core.specs.declared.module.Function.{Function}
use Rattle.ir_core.specs.Places.{Name}

-- a name and its line
abbrev pub entry_seen : Bor (List ℕ) × ℕ → Name × ℕ
entry_seen e = (e.0.now, e.1)

abbrev pub entries_seen : List (Bor (List ℕ) × ℕ) → List (Name × ℕ)
entries_seen es = map entry_seen es

abbrev pub type_entry : TypeDef → Name × ℕ
type_entry d = (d.name, d.line)

abbrev pub global_entry : GlobalItem → Name × ℕ
global_entry g = (g.name, g.line)

abbrev pub function_entry : Function → Name × ℕ
function_entry f = (f.name, f.line)

-- of two places with their lines the one of the earlier line, and on one line the first
abbrev pub sooner : ℕ × ℕ → Option (ℕ × ℕ) → ℕ × ℕ
sooner p None = p
sooner p (Some q) = if nat_lt q.1 p.1 then q else p

-- the place where a name stands first by line, with that line; places are counted from a number
abbrev pub earliest_from : ℕ → List (Name × ℕ) → Name → Option (ℕ × ℕ)
earliest_from n [] x = None
earliest_from n (e ∷ es) x = if bytes_eq e.0 x then Some (sooner (n, e.1) (earliest_from (n + 1) es x)) else earliest_from (n + 1) es x

-- a table has these
abbrev pub found_earliest : {S : Type 0} → IndexMap (Bor (List ℕ)) (ℕ × ℕ) S → Name → Option (ℕ × ℕ)
found_earliest table x = get_by (λ (k : Bor (List ℕ)). bytes_eq x k.now) table

abbrev pub HasEarliest : {S : Type 0} → ℕ → List (Name × ℕ) → IndexMap (Bor (List ℕ)) (ℕ × ℕ) S → Type 0
HasEarliest n es table = (x : Name) → found_earliest table x ≡ earliest_from n es x

abbrev pub is_earliest : ℕ → Option (ℕ × ℕ) → Bool
is_earliest place None = false
is_earliest place (Some p) = p.0 == place

abbrev pub is_place : ℕ → Option ℕ → Bool
is_place place None = false
is_place place (Some p) = p == place
