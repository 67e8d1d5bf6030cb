-- The first of the items of many parts, part by part.
use Rattle.std.proofs.Common.{◌≡◌, ℕ, ◌+◌, ◌<◌, List, [], ◌∷◌, ◌++◌, length, drop, get_or, Bool, Option, Some, None, refl, sym, ap, ◌∙◌}
use Rattle.std.specs.List.{find, flat_map}
use Rattle.std.specs.Option.{option_or}
use Rattle.std.proofs.lemmas.List.{drop_more}
use Rattle.std.proofs.lemmas.List.Folds.{find-append}

module _ {A B : Type 0} (test : B → Bool) (part : A → List B) (xs : List A) (n : ℕ) (d : A) (low : n < length xs) where
  abbrev first : List A → Option B
  first ys = find test (flat_map part ys)

  parted : first (drop n xs) ≡ option_or (find test (part (get_or xs n d))) (first (drop (n + 1) xs))
  parted = ap first (drop_more xs n d low) ∙ find-append test (part (get_or xs n d)) (flat_map part (drop (n + 1) xs))

  -- the part has none
  pub not_in_part : (all : Option B) → first (drop n xs) ≡ all → None ≡ find test (part (get_or xs n d)) → first (drop (n + 1) xs) ≡ all
  not_in_part all so none = ap (λ (o : Option B). option_or o (first (drop (n + 1) xs))) none ∙ sym parted ∙ so

  -- the part has the first
  pub in_part : (all : Option B) (b : B) → first (drop n xs) ≡ all → Some b ≡ find test (part (get_or xs n d)) → Some b ≡ all
  in_part all b so found = ap (λ (o : Option B). option_or o (first (drop (n + 1) xs))) found ∙ sym parted ∙ so
