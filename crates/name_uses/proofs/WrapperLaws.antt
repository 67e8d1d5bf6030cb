-- Whether a name is among those that are called.
use Rattle.std.proofs.Common.{◌≡◌, ℕ, ◌+◌, ◌<◌, List, [], ◌∷◌, ◌++◌, length, drop, get_or, Bool, true, false, refl, sym, ap, ◌∙◌, if◌then◌else◌}
use Rattle.std.specs.List.{flat_map}
use Rattle.std.specs.Str.{bytes_eq}
use Rattle.std.proofs.lemmas.List.{drop_more}
use Rattle.ir_core.specs.declared.instructions.Value.{Value}
use Rattle.ir_core.specs.declared.instructions.Value.TheVariants.{Global as GlobalValue}
use Rattle.ir_core.specs.declared.instructions.Kind.{Kind}
use Rattle.ir_core.specs.declared.instructions.Kind.TheVariants.{Call}
use Rattle.ir_core.specs.declared.rtl.Rtl.{Rtl}
use Rattle.ir_core.specs.EntryPoints.{entry_name}
use Rattle.ir_core.specs.FirstForm.{is_function}
use Rattle.ir_core.specs.Places.{Name}
use Rattle.ir_core.specs.Wrappers.{value_names, kind_callees, is_in}
use Rattle.ir_tables.proofs.Places.{same_turned}
use Rattle.shapes.specs.Facts.{calls}

among_append : (a b : List Name) (x : Name) → is_in (a ++ b) x ≡ (if is_in a x then true else is_in b x)
among_append [] b x = refl
among_append (y ∷ a) b x = elim (bytes_eq x y) as (λ c. (if c then true else is_in (a ++ b) x) ≡ (if (if c then true else is_in a x) then true else is_in b x)) [ true ↦ refl | false ↦ among_append a b x ]

module _ {A : Type 0} (names : A → List Name) (xs : List A) (n : ℕ) (d : A) (x : Name) (low : n < length xs) where
  parted : is_in (flat_map names (drop n xs)) x ≡ (if is_in (names (get_or xs n d)) x then true else is_in (flat_map names (drop (n + 1) xs)) x)
  parted = ap (λ ys. is_in (flat_map names ys) x) (drop_more xs n d low) ∙ among_append (names (get_or xs n d)) (flat_map names (drop (n + 1) xs)) x

  pub not_among : (all : Bool) → is_in (flat_map names (drop n xs)) x ≡ all → false ≡ is_in (names (get_or xs n d)) x → is_in (flat_map names (drop (n + 1) xs)) x ≡ all
  not_among all so none = ap (λ (b : Bool). if b then true else is_in (flat_map names (drop (n + 1) xs)) x) none ∙ sym parted ∙ so

  pub is_among : (all : Bool) → is_in (flat_map names (drop n xs)) x ≡ all → true ≡ is_in (names (get_or xs n d)) x → true ≡ all
  is_among all so some = ap (λ (b : Bool). if b then true else is_in (flat_map names (drop (n + 1) xs)) x) some ∙ sym parted ∙ so

or_none : (b : Bool) → b ≡ (if b then true else false)
or_none true = refl
or_none false = refl

by_callee : (x : Name) (callee : Value) → is_function x callee ≡ is_in (value_names callee) x
by_callee x (GlobalValue y) = same_turned y x ∙ or_none (bytes_eq x y)
by_callee x _ = refl

-- a call of an entry point is one whose callee has its name
pub calls_is : (r : Rtl) (kind : Kind) → calls r kind ≡ is_in (kind_callees kind) (entry_name r)
calls_is r (Call tail_word ret callee operands) = by_callee (entry_name r) callee
calls_is r _ = refl
