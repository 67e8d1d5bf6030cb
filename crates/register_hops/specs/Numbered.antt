-- The nodes as numbers, the graph of hops over these, and what a search over it finds.
use Rattle.std.specs.Prelude.{◌≡◌, ◌↔◌, ◌<◌, ◌+◌, ◌*◌, ◌==◌, ℕ, List, length, Bool, true, Some, slice_get, if◌then◌else◌}
use Rattle.ir_core.specs.declared.module.Module.{Module}
use Rattle.reach.specs.Chains.{Leads}
use Rattle.register_numbers.specs.Numbers.{register_count}
use Rattle.register_hops.specs.declared.hops.Hop.{Hop}
use Rattle.register_hops.specs.declared.nodes.Node.{Node}
use Rattle.register_hops.specs.declared.nodes.Node.TheVariants.{Register, Elsewhere, Region, Returned, Stored, Loaded, Main}

-- the registers stand first, then six numbers for each function
abbrev pub part : Node → ℕ
part Elsewhere = 0
part Region = 1
part (Returned f) = 2
part (Stored f) = 3
part (Loaded f) = 4
part (Main f) = 5
part (Register n) = 6

abbrev pub named : Node → ℕ
named Elsewhere = 0
named Region = 0
named (Returned f) = f
named (Stored f) = f
named (Loaded f) = f
named (Main f) = f
named (Register n) = n

abbrev pub node_number : Module → Node → ℕ
node_number m x = if part x == 6 then named x else register_count m + 6 * named x + part x

abbrev pub node_count : Module → ℕ
node_count m = register_count m + (6 * length m.functions + 2)

-- it stands for a register, a function or a kernel of the module
abbrev pub IsNode : Module → Node → Type 0
IsNode m Elsewhere = Unit {0}
IsNode m Region = Unit {0}
IsNode m (Returned f) = f < length m.functions
IsNode m (Stored f) = f < length m.functions
IsNode m (Loaded f) = f < length m.functions
IsNode m (Main f) = f < length m.functions
IsNode m (Register n) = n < register_count m

abbrev pub Stands : {A : Type 0} → List A → A → Type 0
Stands xs x = (place : ℕ) × (slice_get xs place ≡ Some x)

abbrev pub AreNodes : Module → List Node → Type 0
AreNodes m xs = (x : Node) → Stands xs x → IsNode m x

abbrev pub JoinNodes : Module → List Hop → Type 0
JoinNodes m hops = (h : Hop) → Stands hops h → IsNode m h.from × IsNode m h.to

-- one of the hops goes from one node to the other
abbrev pub HopsOver : List Hop → Node → Node → Type 0
HopsOver hops x y = (h : Hop) × Stands hops h × (h.from ≡ x) × (h.to ≡ y)

-- a chain of these hops leads from one of the roots to the node
abbrev pub IsReachedBy : List Hop → List Node → Node → Type 0
IsReachedBy hops roots x = (root : Node) × Stands roots root × Leads (HopsOver hops) root x

-- the mark at the number of a node is true exactly where it is reached
abbrev pub AreReached : Module → List Hop → List Node → List Bool → Type 0
AreReached m hops roots marks = (x : Node) → IsNode m x → (slice_get marks (node_number m x) ≡ Some true) ↔ IsReachedBy hops roots x

-- the mark of a number is true exactly where it is a register's and that is reached
abbrev pub AreReachedRegisters : Module → List Hop → List Node → List Bool → Type 0
AreReachedRegisters m hops roots marks = (n : ℕ) → (slice_get marks n ≡ Some true) ↔ ((n < register_count m) × IsReachedBy hops roots (Register n))

-- one of the hops goes from the node of one number to that of the other
abbrev pub HopsBetween : Module → List Hop → ℕ → ℕ → Type 0
HopsBetween m hops a b = (h : Hop) × Stands hops h × (a ≡ node_number m h.from) × (b ≡ node_number m h.to)
