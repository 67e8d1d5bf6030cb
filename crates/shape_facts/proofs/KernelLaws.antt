-- Whether some instruction of a function is one of a kind, block by block.
use Rattle.std.proofs.Common.{◌≡◌, List, [], ◌∷◌, Bool, ◌||◌, refl, sym, ap, ◌∙◌}
use Rattle.std.specs.List.{flat_map, list_any}
use Rattle.std.proofs.lemmas.List.Folds.{list_any-append}

pub any_in_parts : {A B : Type 0} (test : B → Bool) (parts : A → List B) (xs : List A) → list_any (λ x. list_any test (parts x)) xs ≡ list_any test (flat_map parts xs)
any_in_parts test parts [] = refl
any_in_parts test parts (x ∷ xs) = ap (λ b. list_any test (parts x) || b) (any_in_parts test parts xs) ∙ sym (list_any-append test (parts x) (flat_map parts xs))
