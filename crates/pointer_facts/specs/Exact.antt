-- Rows of marks by the numbers of registers, and when they are exact.
use Rattle.std.specs.Prelude.{◌≡◌, ◌↔◌, ℕ, List, [], ◌∷◌, ◌++◌, Bool, true, Some, slice_get}
use Rattle.ir_core.specs.declared.module.Module.{Module}
use Rattle.ir_core.specs.Places.{Name}
use Rattle.register_numbers.specs.Numbers.{number_of}
use Rattle.register_hops.specs.declared.nodes.Node.{Node}
use Rattle.register_hops.specs.declared.nodes.Node.TheVariants.{Elsewhere}
use Rattle.register_hops.specs.declared.roots.Origin.TheVariants.{FromStack, FromElsewhere}
use Rattle.register_hops.specs.Roots.{all_roots}
use Rattle.value_facts.specs.Pointers.{Spot, register, MayBeStack, MayBeOther}

-- where pointers come from that may point elsewhere: null and all globals are a root, too
abbrev pub roots_elsewhere : Module → List Node
roots_elsewhere m = all_roots m FromElsewhere ++ Elsewhere ∷ []

-- the register of this number has the property
abbrev pub OfNumber : Module → (Spot → Type 0) → ℕ → Type 0
OfNumber m Holds n = (at : ℕ) × (x : Name) × (number_of m at x ≡ Some n) × Holds (register at x)

-- the mark of a number is true exactly where its register has the property
pub record IsExact (m : Module) (Holds : Spot → Type 0) (row : List Bool) : Type 0 where
  pub same : (n : ℕ) → (slice_get row n ≡ Some true) ↔ OfNumber m Holds n

-- the rows of the pointers that may point into a stack, and of those that may point elsewhere
pub record AreExact (m : Module) (stack other : List Bool) : Type 0 where
  pub stack_row : IsExact m (MayBeStack m) stack
  pub other_row : IsExact m (MayBeOther m) other

-- the roots of the two searches
pub record AreRoots (m : Module) (stack other : List Node) : Type 0 where
  pub stack_roots : stack ≡ all_roots m FromStack
  pub other_roots : other ≡ roots_elsewhere m

-- a register of the function at a place has a number, and the mark of that number is true
abbrev pub IsMarkedAt : Module → List Bool → ℕ → Name → Type 0
IsMarkedAt m row at x = (n : ℕ) × (number_of m at x ≡ Some n) × (slice_get row n ≡ Some true)
