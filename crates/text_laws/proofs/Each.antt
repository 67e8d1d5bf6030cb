-- What holds of each of a list.
use Rattle.std.proofs.Common.{List, [], ◌∷◌, ◌++◌, map}
use Rattle.std.specs.List.{AllByRecursion}

-- what follows from it
pub each_as : {X : Type 0} {P Q : X → Type 0} → ((x : X) → P x → Q x) → (xs : List X) → AllByRecursion P xs → AllByRecursion Q xs
each_as law [] h = tt
each_as law (x ∷ xs) h = (law x h.0, each_as law xs h.1)

pub each_mapped : {X Y : Type 0} {P : X → Type 0} (Q : Y → Type 0) (f : X → Y) → ((x : X) → P x → Q (f x)) → (xs : List X) → AllByRecursion P xs → AllByRecursion Q (map f xs)
each_mapped Q f law [] h = tt
each_mapped Q f law (x ∷ xs) h = (law x h.0, each_mapped Q f law xs h.1)

-- two lists, one behind the other
pub each_append : {X : Type 0} (P : X → Type 0) (xs ys : List X) → AllByRecursion P xs → AllByRecursion P ys → AllByRecursion P (xs ++ ys)
each_append P [] ys h k = k
each_append P (x ∷ xs) ys h k = (h.0, each_append P xs ys h.1 k)

pub each_parted : {X : Type 0} (P : X → Type 0) (xs ys : List X) → AllByRecursion P (xs ++ ys) → AllByRecursion P xs × AllByRecursion P ys
each_parted P [] ys h = (tt, h)
each_parted P (x ∷ xs) ys h = let r = each_parted P xs ys h.1 in ((h.0, r.0), r.1)
