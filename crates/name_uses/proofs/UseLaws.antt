-- A name stands in a list exactly where the list has a place for it.
use Rattle.std.proofs.Common.{◌≡◌, ℕ, ◌+◌, List, [], ◌∷◌, ◌++◌, Bool, true, false, Option, Some, None, refl, sym, ap, ◌∙◌, if◌then◌else◌}
use Rattle.std.specs.List.{flat_map}
use Rattle.std.specs.Option.{is_some}
use Rattle.std.proofs.lemmas.Grind.{flat_map-append}
use Rattle.ir_core.specs.declared.instructions.Inst.{Inst}
use Rattle.ir_core.specs.declared.module.Module.{Module}
use Rattle.ir_core.specs.declared.module.Function.{Function}
use Rattle.shapes.specs.Facts.{insts_of, insts_in}
use Rattle.shapes.specs.Insts.{block_insts}
use Rattle.std.specs.Str.{bytes_eq}
use Rattle.ir_core.specs.Places.{Name, place_from, place_in}
use Rattle.ir_core.specs.Wrappers.{is_in}
use Rattle.ir_tables.proofs.Places.{same_turned}

by_first : (x y : Name) (b c : Bool) (n : ℕ) (rest : Option ℕ) (more : Bool) → b ≡ c → is_some rest ≡ more → is_some (if b then Some n else rest) ≡ (if c then true else more)
by_first x y true true n rest more e h = refl
by_first x y false false n rest more e h = h
by_first x y true false n rest more e h = let f : ⊥ = cc in absurd f
by_first x y false true n rest more e h = let f : ⊥ = cc in absurd f

placed_from : (n : ℕ) (names : List Name) (x : Name) → is_some (place_from n names x) ≡ is_in names x
placed_from n [] x = refl
placed_from n (y ∷ ys) x = by_first x y (bytes_eq y x) (bytes_eq x y) n (place_from (n + 1) ys x) (is_in ys x) (same_turned y x) (placed_from (n + 1) ys x)

pub placed : (names : List Name) (x : Name) → is_some (place_in names x) ≡ is_in names x
placed names x = placed_from 0 names x

-- ---- names in instructions, block by block

fused : {X Y Z : Type 0} (f : Y → List Z) (g : X → List Y) (xs : List X) → flat_map f (flat_map g xs) ≡ flat_map (λ x. flat_map f (g x)) xs
fused f g [] = refl
fused f g (x ∷ xs) = flat_map-append f (g x) (flat_map g xs) ∙ ap (λ ys. flat_map f (g x) ++ ys) (fused f g xs)

abbrev in_function : (Inst → List Name) → Function → List Name
in_function of f = flat_map (λ b. flat_map of (block_insts b)) f.blocks

each_function : (of : Inst → List Name) (f : Function) → flat_map of (insts_of f) ≡ in_function of f
each_function of f = fused of block_insts f.blocks

pub in_blocks : (of : Inst → List Name) (m : Module) → flat_map of (insts_in m) ≡ flat_map (in_function of) m.functions
in_blocks of m = fused of insts_of m.functions ∙ ap (λ (g : Function → List Name). flat_map g m.functions) (λ i f. each_function of f i)
