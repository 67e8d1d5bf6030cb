-- The nodes of values: registers have nodes of their own, null and all globals share one.
use Rattle.std.specs.Prelude.{ℕ, Option, Some, None, option_map}
use Rattle.ir_core.specs.declared.instructions.Value.{Value}
use Rattle.ir_core.specs.declared.instructions.Value.TheVariants.{Int as IntValue, Null, Local as LocalValue, Global as GlobalValue}
use Rattle.ir_core.specs.declared.module.Module.{Module}
use Rattle.ir_core.specs.Places.{Name}
use Rattle.register_numbers.specs.Numbers.{number_of}
use Rattle.register_hops.specs.declared.nodes.Node.{Node}
use Rattle.register_hops.specs.declared.nodes.Node.TheVariants.{Register, Elsewhere}

-- the node of a register of the function at a place
abbrev pub register_node : Module → ℕ → Name → Option Node
register_node m at x = option_map Register (number_of m at x)

-- the node of a value that stands in the function at a place
abbrev pub value_node : Module → ℕ → Value → Option Node
value_node m at (IntValue n) = None
value_node m at Null = Some Elsewhere
value_node m at (LocalValue x) = register_node m at x
value_node m at (GlobalValue x) = Some Elsewhere

-- the node of an instruction's result
abbrev pub result_node : Module → ℕ → Option Name → Option Node
result_node m at None = None
result_node m at (Some x) = register_node m at x
