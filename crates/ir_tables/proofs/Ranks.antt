-- How far a look-up of a named type can still go on: a type's body is no deeper than the deepest one in the list.
use Rattle.std.proofs.Common.{◌≡◌, ℕ, suc, ◌+◌, ◌-◌, ◌*◌, ◌<◌, ◌≤◌, max, List, [], ◌∷◌, Option, Some, None, Bool, true, false, cond, refl, sym, ap, ◌∙◌, subst, arith, filter}
use Rattle.std.proofs.Math.Nat.{suc-mul}
use Rattle.std.proofs.lemmas.Option.{none-some, same_Some}
use Rattle.std.specs.Borrow.{Bor}
use Rattle.std.specs.Str.{bytes_eq}
use Rattle.ir_core.specs.declared.types.Ty.{Ty, size-Ty}
use Rattle.ir_core.specs.declared.module.TypeDef.{TypeDef}
use Rattle.ir_core.specs.Layout.{body_of, only_one}
use Rattle.ir_tables.specs.declared.named.Named.{Named}
use Rattle.ir_tables.specs.declared.named.Named.TheVariants.{InTable, InList}
use Rattle.ir_tables.proofs.Scans.{only_more, only_first}

-- the depth of the deepest type
abbrev pub deepest : List TypeDef → ℕ
deepest [] = 0
deepest (d ∷ ds) = max (size-Ty d.body) (deepest ds)

abbrev pub rank : Named → ℕ
rank (InTable types table) = 0
rank (InList types depth) = depth * (2 * deepest types.now + 2)

first_is : (d : TypeDef) (ds : List TypeDef) (t : Ty) → only_one (d ∷ ds) ≡ Some t → d.body ≡ t
first_is d [] t e = same_Some d.body t e
first_is d (f ∷ ds) t e = absurd (none-some t e)

pub one_below : (x : List ℕ) (types : List TypeDef) (t : Ty) → body_of types x ≡ Some t → size-Ty t ≤ deepest types
one_below x [] t e = absurd (none-some t e)
one_below x (d ∷ ds) t e = by (bytes_eq d.name x) e (one_below x ds t)
  where
    by : (b : Bool) → only_one (cond b (d ∷ filter (λ (c : TypeDef). bytes_eq c.name x) ds) (filter (λ (c : TypeDef). bytes_eq c.name x) ds)) ≡ Some t → (body_of ds x ≡ Some t → size-Ty t ≤ deepest ds) → size-Ty t ≤ max (size-Ty d.body) (deepest ds)
    by true e more = let same = ap size-Ty (first_is d (filter (λ (c : TypeDef). bytes_eq c.name x) ds) t e) in omega arith
    by false e more = let low = more e in omega arith

-- a name in the list has a lower rank in its body, which the look-up goes into with a depth less
pub list_falls : (named : Named) (types : Bor (List TypeDef)) (depth less : ℕ) (x : List ℕ) (t : Ty) → named ≡ InList types depth → depth ≡ less + 1 → body_of types.now x ≡ Some t → rank (InList types less) + 2 * size-Ty t + 1 < rank named
list_falls named types depth less x t is one body =
    let low = one_below x types.now t body in
    let next : less + 1 ≡ suc less = omega arith in
    let same : rank named ≡ less * (2 * deepest types.now + 2) + (2 * deepest types.now + 2) = ap rank is ∙ ap (λ n. n * (2 * deepest types.now + 2)) (one ∙ next) ∙ suc-mul less (2 * deepest types.now + 2) in
    omega arith
