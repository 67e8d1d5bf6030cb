-- The hops that each instruction makes, in the order of the text.
use Rattle.std.specs.Prelude.{ℕ, List, [], ◌∷◌, ◌++◌, Option, Some, None, option_and_then, slice_get, if◌then◌else◌}
use Rattle.std.specs.List.{flat_map}
use Rattle.ir_core.specs.declared.types.Ty.{Ty}
use Rattle.ir_core.specs.declared.instructions.Value.{Value}
use Rattle.ir_core.specs.declared.instructions.Value.TheVariants.{Global as GlobalValue}
use Rattle.ir_core.specs.declared.instructions.Typed.{Typed}
use Rattle.ir_core.specs.declared.instructions.Edge.{Edge}
use Rattle.ir_core.specs.declared.instructions.Kind.{Kind}
use Rattle.ir_core.specs.declared.instructions.Kind.TheVariants.{Select, Phi, Load, Store, Gep, Call, Ret}
use Rattle.ir_core.specs.declared.instructions.Inst.{Inst}
use Rattle.ir_core.specs.declared.module.Module.{Module}
use Rattle.ir_core.specs.declared.module.Function.{Function}
use Rattle.ir_core.specs.declared.module.Param.{Param}
use Rattle.ir_core.specs.FirstForm.{is_ptr}
use Rattle.ir_core.specs.Places.{function_place}
use Rattle.shapes.specs.Facts.{insts_of}
use Rattle.shapes.specs.Wrappers.{is_defined}
use Rattle.register_hops.specs.declared.hops.Hop.{Hop}
use Rattle.register_hops.specs.declared.nodes.Node.{Node}
use Rattle.register_hops.specs.declared.nodes.Node.TheVariants.{Returned, Stored, Loaded}
use Rattle.register_hops.specs.Placed.{by_place}
use Rattle.register_hops.specs.Nodes.{register_node, value_node, result_node}

abbrev pub hop_from : Node → Option Node → List Hop
hop_from from None = []
hop_from from (Some to) = record { from = from; to = to } ∷ []

-- the hop between two nodes, if there are both
abbrev pub hop : Option Node → Option Node → List Hop
hop None to = []
hop (Some from) to = hop_from from to

-- ---- calls

abbrev pub if_defined : ℕ → Option Function → Option ℕ
if_defined at None = None
if_defined at (Some f) = if is_defined f then Some at else None

-- the place of the defined function that is called
abbrev pub defined_place : Module → Value → Option ℕ
defined_place m (GlobalValue x) = option_and_then (λ at. if_defined at (slice_get m.functions at)) (function_place m x)
defined_place m _ = None

abbrev pub params_of : Option Function → List Param
params_of None = []
params_of (Some f) = f.params

-- from each operand, in the function at one place, to the parameter at its place of the function at the other
abbrev pub operand_hops : Module → ℕ → ℕ → List Typed → List Param → List Hop
operand_hops m at to [] ps = []
operand_hops m at to (v ∷ vs) [] = []
operand_hops m at to (v ∷ vs) (p ∷ ps) = hop (value_node m at v.value) (register_node m to p.name) ++ operand_hops m at to vs ps

abbrev pub hops_of_call : Module → ℕ → Option Node → List Typed → Option ℕ → List Hop
hops_of_call m at result operands None = []
hops_of_call m at result operands (Some to) =
    operand_hops m at to operands (params_of (slice_get m.functions to)) ++ hop_from (Returned to) result

-- ---- other instructions

abbrev pub edge_hops : Module → ℕ → Option Node → Edge → List Hop
edge_hops m at result e = hop (value_node m at e.value) result

abbrev pub store_hops : Module → ℕ → Typed → List Hop
store_hops m at v = if is_ptr v.ty then hop (value_node m at v.value) (Some (Stored at)) else []

abbrev pub load_hops : ℕ → Option Node → Ty → List Hop
load_hops at result ty = if is_ptr ty then hop_from (Loaded at) result else []

abbrev pub return_hops : Module → ℕ → Option Typed → List Hop
return_hops m at None = []
return_hops m at (Some v) = hop (value_node m at v.value) (Some (Returned at))

-- an instruction with its result, in the function at a place
abbrev pub kind_hops : Module → ℕ → Option Node → Kind → List Hop
kind_hops m at result (Gep inbounds ty base path) = hop (value_node m at base.value) result
kind_hops m at result (Select c a b) = hop (value_node m at a.value) result ++ hop (value_node m at b.value) result
kind_hops m at result (Phi ty edges) = flat_map (edge_hops m at result) edges
kind_hops m at result (Call tail_word ret callee operands) = hops_of_call m at result operands (defined_place m callee)
kind_hops m at result (Store v p order align) = store_hops m at v
kind_hops m at result (Load ty p order align) = load_hops at result ty
kind_hops m at result (Ret v) = return_hops m at v
kind_hops m at result _ = []

abbrev pub inst_hops : Module → ℕ → Inst → List Hop
inst_hops m at i = kind_hops m at (result_node m at i.result) i.kind

abbrev pub function_hops : Module → ℕ → Function → List Hop
function_hops m at f = flat_map (inst_hops m at) (insts_of f)

abbrev pub all_hops : Module → List Hop
all_hops m = by_place (function_hops m) 0 m.functions
