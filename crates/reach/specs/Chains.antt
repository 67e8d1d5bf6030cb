-- Chains of hops, for any relation of things to things.
use Rattle.std.specs.Prelude.{◌≡◌, List, [], ◌∷◌}

-- hop by hop from x through these to y
abbrev pub Chain : {A : Type 0} → (A → A → Type 0) → A → List A → A → Type 0
Chain Hop x [] y = x ≡ y
Chain Hop x (z ∷ zs) y = Hop x z × Chain Hop z zs y

-- a finite chain of hops leads from x to y
abbrev pub Leads : {A : Type 0} → (A → A → Type 0) → A → A → Type 0
Leads {A} Hop x y = (through : List A) × Chain Hop x through y
