-- The files that the words name are served.
use Rattle.std.proofs.Common.{◌≡◌, ℕ, List, [], ◌∷◌, codes, Bool, true, false, IfSome, Option, Some, None, string_bytes, if◌then◌else◌, refl, arith}
use Rattle.std.specs.Str.{bytes_eq}
use Rattle.std.specs.declared.string.String.{String}
use Rattle.std.specs.declared.alloc.Global.{Global}
use Rattle.opt_core.specs.Answer.{path_of, texts}
use Rattle.opt_core.specs.Replay.{AreServed, paths_of}
use Rattle.io_edge.specs.Place.{IsServed}
use Rattle.io_edge.proofs.Kept.{second_is_served, word_is_served}

by_command : (b : Bool) (first second : String Global) → IfSome (if b then Some (string_bytes second) else None) (λ path. IsServed (first ∷ second ∷ []) path)
by_command true first second = second_is_served first second
by_command false first second = tt

pub path_is_served : (words : List (String Global)) → IfSome (path_of (texts words)) (λ path. IsServed words path)
path_is_served [] = tt
path_is_served (a ∷ []) = tt
path_is_served (a ∷ b ∷ []) = by_command (bytes_eq (string_bytes a) (codes "opt")) a b
path_is_served (a ∷ b ∷ c ∷ words) = tt

three_by : (b : Bool) (a m l s : String Global) →
    AreServed (λ name. IsServed (a ∷ m ∷ l ∷ s ∷ []) name) (if b then Some (record { «module» = string_bytes m; launch = string_bytes l; schedule = string_bytes s }) else None)
three_by true a m l s =
    let words : List (String Global) = a ∷ m ∷ l ∷ s ∷ [] in
    (word_is_served words 1 m refl (omega arith), word_is_served words 2 l refl (omega arith), word_is_served words 3 s refl (omega arith))
three_by false a m l s = tt

pub paths_are_served : (words : List (String Global)) → AreServed (λ name. IsServed words name) (paths_of (texts words))
paths_are_served [] = tt
paths_are_served (a ∷ []) = tt
paths_are_served (a ∷ m ∷ []) = tt
paths_are_served (a ∷ m ∷ l ∷ []) = tt
paths_are_served (a ∷ m ∷ l ∷ s ∷ []) = three_by (bytes_eq (string_bytes a) (codes "replay")) a m l s
paths_are_served (a ∷ m ∷ l ∷ s ∷ t ∷ words) = tt
