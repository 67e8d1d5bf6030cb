-- Where pointers come from: the roots of both searches, by the functions of a module.
use Rattle.std.specs.Prelude.{ℕ, List, [], ◌∷◌, ◌++◌, Bool, true, false, ◌&&◌, ◌||◌, not, nat_lt, Option, Some, None, if◌then◌else◌}
use Rattle.std.specs.List.{flat_map}
use Rattle.ir_core.specs.declared.instructions.Kind.{Kind}
use Rattle.ir_core.specs.declared.instructions.Kind.TheVariants.{Alloca, Load, Cast}
use Rattle.ir_core.specs.declared.instructions.CastOp.{CastOp}
use Rattle.ir_core.specs.declared.instructions.CastOp.TheVariants.{IntToPtr}
use Rattle.ir_core.specs.declared.instructions.Inst.{Inst}
use Rattle.ir_core.specs.declared.module.Module.{Module}
use Rattle.ir_core.specs.declared.module.Function.{Function}
use Rattle.ir_core.specs.declared.module.Param.{Param}
use Rattle.ir_core.specs.declared.rtl.Rtl.TheVariants.{AllocShared}
use Rattle.ir_core.specs.FirstForm.{is_ptr}
use Rattle.ir_core.specs.Places.{Name}
use Rattle.ir_core.specs.Wrappers.{is_in, callees, is_wrapper}
use Rattle.shapes.specs.Facts.{insts_of, calls}
use Rattle.shapes.specs.KernelShape.{is_kernel}
use Rattle.shapes.specs.Uses.{names_forked}
use Rattle.register_hops.specs.declared.nodes.Node.{Node}
use Rattle.register_hops.specs.declared.roots.Origin.{Origin}
use Rattle.register_hops.specs.declared.roots.Origin.TheVariants.{FromStack, FromElsewhere}
use Rattle.register_hops.specs.Placed.{by_place}
use Rattle.register_hops.specs.Nodes.{register_node, result_node}

-- ---- region functions

abbrev pub callees_if_wrapper : Module → Function → List Name
callees_if_wrapper m f = if is_wrapper m f then callees f else []

-- the functions that wrappers call
abbrev pub called_by_wrappers : Module → List Name
called_by_wrappers m = flat_map (callees_if_wrapper m) m.functions

-- a region function is one that a fork names, or that a wrapper calls
abbrev pub is_region : Module → Function → Bool
is_region m f = is_in (names_forked m) f.name || is_in (called_by_wrappers m) f.name

-- ---- roots

abbrev pub root_if : Bool → Option Node → List Node
root_if false n = []
root_if true None = []
root_if true (Some n) = n ∷ []

abbrev pub makes_address : CastOp → Bool
makes_address IntToPtr = true
makes_address _ = false

-- a pointer of this origin is the result of such an instruction
abbrev pub makes : Origin → Kind → Bool
makes FromStack (Alloca ty align) = true
makes FromStack _ = false
makes FromElsewhere (Load ty at order align) = is_ptr ty
makes FromElsewhere (Cast op from to) = makes_address op
makes FromElsewhere kind = calls AllocShared kind

abbrev pub inst_roots : Module → Origin → ℕ → Inst → List Node
inst_roots m origin at i = root_if (makes origin i.kind) (result_node m at i.result)

-- a parameter at a place has a pointer of this origin, in a kernel or in a region function
abbrev pub is_given : Origin → Bool → Bool → ℕ → Param → Bool
is_given FromStack kernel region place p = region && nat_lt place 2
is_given FromElsewhere kernel region place p = is_ptr p.ty && (kernel || (region && not (nat_lt place 2)))

abbrev pub param_root : Module → Origin → ℕ → Bool → Bool → ℕ → Param → List Node
param_root m origin at kernel region place p = root_if (is_given origin kernel region place p) (register_node m at p.name)

abbrev pub param_roots : Module → Origin → ℕ → Bool → Bool → List Param → List Node
param_roots m origin at kernel region ps = by_place (param_root m origin at kernel region) 0 ps

abbrev pub function_roots : Module → Origin → ℕ → Function → List Node
function_roots m origin at f = param_roots m origin at (is_kernel f) (is_region m f) f.params ++ flat_map (inst_roots m origin at) (insts_of f)

abbrev pub all_roots : Module → Origin → List Node
all_roots m origin = by_place (function_roots m origin) 0 m.functions
