-- Files in memory that have bytes tell what they hold.
use Rattle.std.proofs.Common.{◌≡◌, ℕ, zero, suc, ◌≤◌, List, [], ◌∷◌, length, Bool, true, false, cond, Option, Some, None, IsSome, is_some, Contains, refl, rules, arith}
use Rattle.std.specs.Option.{option_and_then}
use Rattle.std.specs.Str.{bytes_eq}
use Rattle.std.proofs.lemmas.Slice.Eq.{bytes_eq-Decides}
use Rattle.io_edge.specs.declared.memory.NamedFile.{NamedFile}
use Rattle.std.specs.List.{IsDistinct}
use Rattle.io_edge.specs.Files.{HaveBytes, HaveDistinctNames, content_of, file_of, names_of}

by_first : (is_first : Bool) (file : NamedFile) (later : Option NamedFile) → (is_first ≡ true → IsSome file.bytes) → (is_first ≡ false → IsSome (option_and_then (λ f. f.bytes) later)) → IsSome (option_and_then (λ f. f.bytes) (cond is_first (Some file) later))
by_first true file later here there = here refl
by_first false file later here there = there refl

-- under each name there are bytes
pub told : (files : List NamedFile) (name : List ℕ) → HaveBytes files → Contains (names_of files) name → IsSome (content_of files name)
told [] name all (k, low, is) = let f : ⊥ = omega arith in absurd f
told (file ∷ files) name all (zero, low, is) =
    by_first (bytes_eq file.name name) file (file_of files name) (λ e. all 0 file (omega arith)) (λ e. let f : ⊥ = let yes : bytes_eq file.name name ≡ true = (bytes_eq-Decides file.name name).1 is in cc in absurd f)
told (file ∷ files) name all (suc k, low, is) =
    by_first (bytes_eq file.name name) file (file_of files name) (λ e. all 0 file (omega arith)) (λ e. told files name (λ i d h. all (suc i) d (omega arith)) (k, omega arith, is))

pub not_untold : (files : List NamedFile) (name : List ℕ) → HaveBytes files → Contains (names_of files) name → content_of files name ≡ None → ⊥
not_untold files name all has untold = let some : is_some (content_of files name) ≡ true = told files name all has in cc

-- the name of one file alone is distinct
pub one_is_distinct : (files : List NamedFile) → length files ≤ 1 → HaveDistinctNames files
unfolding IsDistinct
one_is_distinct [] one = tt
one_is_distinct (file ∷ []) one = search rules
one_is_distinct (file ∷ other ∷ files) one = let f : ⊥ = omega arith in absurd f
