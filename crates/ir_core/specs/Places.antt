-- Look-ups in a module: instructions by place; registers, blocks, functions and globals by name; and the phis of a block.
use Rattle.std.specs.Prelude.{ℕ, ◌+◌, List, [], ◌∷◌, ◌++◌, map, Option, Some, None, slice_get, if◌then◌else◌}
use Rattle.std.specs.List.{flat_map}
use Rattle.std.specs.Str.{bytes_eq}
use Rattle.ir_core.specs.declared.module.Module.{Module}
use Rattle.ir_core.specs.declared.module.Function.{Function}
use Rattle.ir_core.specs.declared.module.Block.{Block}
use Rattle.ir_core.specs.declared.module.Param.{Param}
use Rattle.ir_core.specs.declared.module.Global.{Global}
use Rattle.ir_core.specs.declared.instructions.Value.{Value}
use Rattle.ir_core.specs.declared.instructions.Edge.{Edge}
use Rattle.ir_core.specs.declared.instructions.Kind.{Kind}
use Rattle.ir_core.specs.declared.instructions.Kind.TheVariants.{Phi}
use Rattle.ir_core.specs.declared.instructions.Inst.{Inst}

abbrev pub Name : Type 0
Name = List ℕ

-- where an instruction stands: the places of its function, block and itself, each from 0
pub record Place : Type 0 where
  pub function : ℕ
  pub block : ℕ
  pub index : ℕ

abbrev pub block_in : Option Function → ℕ → Option Block
block_in None b = None
block_in (Some f) b = slice_get f.blocks b

abbrev pub inst_in : Option Block → ℕ → Option Inst
inst_in None i = None
inst_in (Some b) i = slice_get b.insts i

-- the instruction at a place
abbrev pub inst_at : Module → Place → Option Inst
inst_at m p = inst_in (block_in (slice_get m.functions p.function) p.block) p.index

-- the place of a name in a list
abbrev pub place_from : ℕ → List Name → Name → Option ℕ
place_from n [] x = None
place_from n (y ∷ ys) x = if bytes_eq y x then Some n else place_from (n + 1) ys x

abbrev pub place_in : List Name → Name → Option ℕ
place_in = place_from 0

abbrev pub block_name : Block → Name
block_name b = b.name

abbrev pub labels_of : Option Function → List Name
labels_of None = []
labels_of (Some f) = map block_name f.blocks

-- the names of a function's blocks
abbrev pub labels : Module → ℕ → List Name
labels m f = labels_of (slice_get m.functions f)

abbrev pub function_name : Function → Name
function_name f = f.name

-- the place of a function in the module
abbrev pub function_place : Module → Name → Option ℕ
function_place m x = place_in (map function_name m.functions) x

abbrev pub global_name : Global → Name
global_name g = g.name

-- the place of a global in the module
abbrev pub global_place : Module → Name → Option ℕ
global_place m x = place_in (map global_name m.globals) x

-- ---- registers

abbrev pub param_name : Param → Name
param_name p = p.name

abbrev pub result_names : Option Name → List Name
result_names None = []
result_names (Some x) = x ∷ []

abbrev pub inst_results : Inst → List Name
inst_results i = result_names i.result

abbrev pub block_results : Block → List Name
block_results b = flat_map inst_results b.insts

-- a function's parameters and then its results, in the order of the text
abbrev pub register_names_of : Option Function → List Name
register_names_of None = []
register_names_of (Some f) = map param_name f.params ++ flat_map block_results f.blocks

abbrev pub register_names : Module → ℕ → List Name
register_names m f = register_names_of (slice_get m.functions f)

-- ---- phis

-- a phi: its result, and the operand for each edge
pub record PhiNode : Type 0 where
  pub result : Option Name
  pub edges : List Edge

abbrev pub with_phi : Option Name → Kind → List PhiNode → List PhiNode
with_phi x (Phi ty edges) phis = record { result = x; edges = edges } ∷ phis
with_phi x _ phis = []

-- the phis at the front of a block
abbrev pub leading_phis : List Inst → List PhiNode
leading_phis [] = []
leading_phis (i ∷ is) = with_phi i.result i.kind (leading_phis is)

abbrev pub phis_in : Option Block → List PhiNode
phis_in None = []
phis_in (Some b) = leading_phis b.insts

abbrev pub phis_at : Module → ℕ → ℕ → List PhiNode
phis_at m f b = phis_in (block_in (slice_get m.functions f) b)

-- the operand for the edge from a block
abbrev pub edge_from : List Edge → Name → Option Value
edge_from [] x = None
edge_from (e ∷ es) x = if bytes_eq e.block x then Some e.value else edge_from es x

abbrev pub name_in : Option Block → Name
name_in None = []
name_in (Some b) = b.name

-- the name of the block at a place
abbrev pub label_at : Module → Place → Name
label_at m p = name_in (block_in (slice_get m.functions p.function) p.block)
