-- How large a module may be: its functions, blocks and instructions, the captures of a region, and the size of a type.
use Rattle.std.specs.Prelude.{ℕ, List, [], ◌∷◌, ◌++◌, drop, map, Bool, true, false, not, nat_lt, Option, Some, None, if◌then◌else◌}
use Rattle.std.specs.List.{flat_map, list_any}
use Rattle.ir_core.specs.declared.types.Ty.{Ty, fold-Ty, roll-Ty, map-Ty}
use Rattle.ir_core.specs.declared.types.Ty.TheOpen.{Ty-F}
use Rattle.ir_core.specs.declared.instructions.Value.{Value}
use Rattle.ir_core.specs.declared.instructions.Value.TheVariants.{Int as IntValue}
use Rattle.ir_core.specs.declared.instructions.Typed.{Typed}
use Rattle.ir_core.specs.declared.instructions.Kind.{Kind}
use Rattle.ir_core.specs.declared.instructions.Kind.TheVariants.{Alloca, Gep}
use Rattle.ir_core.specs.declared.instructions.Inst.{Inst}
use Rattle.ir_core.specs.declared.module.Module.{Module}
use Rattle.ir_core.specs.declared.module.TypeDef.{TypeDef}
use Rattle.ir_core.specs.declared.module.Global.{Global}
use Rattle.ir_core.specs.declared.module.Init.{Init, fold-Init}
use Rattle.ir_core.specs.declared.module.Init.TheOpen.{Init-F, Element-F}
use Rattle.ir_core.specs.declared.refusal.Construct.TheVariants.{Limit}
use Rattle.ir_core.specs.declared.refusal.Refusal.{Refusal}
use Rattle.ir_core.specs.declared.rtl.Rtl.TheVariants.{Parallel}
use Rattle.ir_core.specs.Layout.{Size}
use Rattle.shapes.specs.Facts.{rule, insts_in, is_call_of, operand_of}

unfoldable pub function_limit : ℕ
function_limit = 4096

unfoldable pub block_limit : ℕ
block_limit = 65536

unfoldable pub instruction_limit : ℕ
instruction_limit = 200000

unfoldable pub capture_limit : ℕ
capture_limit = 64

-- 1,048,576 bytes
unfoldable pub size_limit : ℕ
size_limit = 1048576

-- ---- counts

abbrev pub first_line : List ℕ → List Refusal
first_line [] = []
first_line (line ∷ lines) = rule Limit false line

-- the first item, of those on these lines, that is above a limit
abbrev pub beyond : ℕ → List ℕ → List Refusal
beyond limit lines = first_line (drop limit lines)

abbrev pub of_counts : Module → List Refusal
of_counts m =
    beyond function_limit (map (λ f. f.line) m.functions)
    ++ beyond block_limit (flat_map (λ f. map (λ b. b.line) f.blocks) m.functions)
    ++ beyond instruction_limit (map (λ i. i.line) (insts_in m))

-- ---- captures

abbrev pub is_above : ℕ → Value → Bool
is_above limit (IntValue n) = nat_lt limit n
is_above limit _ = false

abbrev pub has_few : Option Typed → Bool
has_few None = true
has_few (Some v) = not (is_above capture_limit v.value)

abbrev pub of_captures : Inst → List Refusal
of_captures i = rule Limit (if is_call_of Parallel i then has_few (operand_of i 8) else true) i.line

-- ---- sizes

-- a type, and whether it or a part of it takes more bytes than a type may
abbrev pub Measured : Type 0
Measured = Ty × Bool

abbrev pub measured_type : Measured → Ty
measured_type part = part.0

abbrev pub is_measured_large : Measured → Bool
is_measured_large part = part.1

abbrev pub part_is_large : Ty-F Measured → Bool
part_is_large (Ty-F.Array n item) = is_measured_large item
part_is_large (Ty-F.Struct fields) = list_any is_measured_large fields
part_is_large _ = false

abbrev pub whole_type : Ty-F Measured → Ty
whole_type layer = roll-Ty (map-Ty Measured Ty measured_type layer)

abbrev pub measure_layer : List TypeDef → Ty-F Measured → Measured
measure_layer types layer = (whole_type layer, if part_is_large layer then true else nat_lt size_limit (Size types (whole_type layer)))

abbrev pub measure : List TypeDef → Ty → Measured
measure types = fold-Ty Measured (measure_layer types)

abbrev pub is_large : List TypeDef → Ty → Bool
is_large types ty = is_measured_large (measure types ty)

abbrev pub of_size : Module → ℕ → Ty → List Refusal
of_size m line ty = rule Limit (not (is_large m.types ty)) line

-- the types of the parts of an initializer
abbrev pub init_types_layer : Init-F (List Ty) (List Ty) → List Ty
init_types_layer (Init-F.Square parts) = flat_map (λ tys. tys) parts
init_types_layer (Init-F.Braces parts) = flat_map (λ tys. tys) parts
init_types_layer _ = []

abbrev pub element_types_layer : Element-F (List Ty) (List Ty) → List Ty
element_types_layer e = e.ty ∷ e.init

abbrev pub init_types : Init → List Ty
init_types init = fold-Init (List Ty) (List Ty) init_types_layer element_types_layer init

abbrev pub contents_types : Option Init → List Ty
contents_types None = []
contents_types (Some init) = init_types init

abbrev pub of_global : Module → Global → List Refusal
of_global m g = flat_map (of_size m g.line) (g.ty ∷ contents_types g.init)

-- every other type of an instruction is a register's, a parameter's or a result's, and so a scalar
abbrev pub kind_types : Kind → List Ty
kind_types (Alloca ty align) = ty ∷ []
kind_types (Gep inbounds ty base path) = ty ∷ []
kind_types _ = []

abbrev pub of_inst : Module → Inst → List Refusal
of_inst m i = of_captures i ++ flat_map (of_size m i.line) (kind_types i.kind)

-- ---- the whole

abbrev pub limit_refusals : Module → List Refusal
limit_refusals m = of_counts m ++ flat_map (λ d. of_size m d.line d.body) m.types ++ flat_map (of_global m) m.globals ++ flat_map (of_inst m) (insts_in m)
