-- The refusals of a module for its names and types: each is a fact about one item, and the least is told.
use Rattle.std.specs.Prelude.{ℕ, zero, suc, List, [], ◌∷◌, ◌++◌, length, map, Bool, true, false, not, Option, Some, None, nat_lt, nat_le, ◌==◌, ◌&&◌, if◌then◌else◌}
use Rattle.std.specs.List.{flat_map, list_all, list_any}
use Rattle.std.specs.Str.{bytes_eq}
use Rattle.ir_core.specs.declared.types.Ty.{Ty}
use Rattle.ir_core.specs.declared.types.Ty.TheOpen.{Ty-F}
use Rattle.ir_core.specs.declared.instructions.Kind.{Kind}
use Rattle.ir_core.specs.declared.instructions.Kind.TheVariants.{Phi}
use Rattle.ir_core.specs.declared.instructions.Inst.{Inst}
use Rattle.ir_core.specs.declared.module.Module.{Module}
use Rattle.ir_core.specs.declared.module.TypeDef.{TypeDef}
use Rattle.ir_core.specs.declared.module.Global.{Global as GlobalItem}
use Rattle.ir_core.specs.declared.module.Init.{Init, fold-Init}
use Rattle.ir_core.specs.declared.module.Init.TheOpen.{Init-F, Element-F}
use Rattle.ir_core.specs.declared.module.Function.{Function}
use Rattle.ir_core.specs.declared.module.Param.{Param}
use Rattle.ir_core.specs.declared.module.Block.{Block}
use Rattle.ir_core.specs.declared.refusal.Construct.{Construct}
use Rattle.ir_core.specs.declared.refusal.Construct.TheVariants.{DuplicateName, MissingName, Signature}
use Rattle.ir_core.specs.declared.refusal.Refusal.{Refusal}
use Rattle.ir_core.specs.declared.rtl.Rtl.{Rtl}
use Rattle.ir_core.specs.declared.rtl.Rtl.TheVariants.{ParallelLevel}
use Rattle.ir_core.specs.EntryPoints.{entry_name, entry_point, entry_points, is_entry_point}
use Rattle.ir_core.specs.FirstForm.{is_scalar, is_int_of, is_ptr, is_void, same_scalar, is_number_of}
use Rattle.ir_core.specs.Notes.{construct_number}
use Rattle.ir_core.specs.Places.{Name}
use Rattle.ir_core.specs.Wrappers.{is_in}
use Rattle.ir_core.specs.Given.{names_in, same_type, type_given, shape_of, symbol_given, local_names}
use Rattle.ir_core.specs.Typing.{Scope, scope_of, expects, in_type, as_symbol, in_inst, same_result, if_output}

abbrev pub at : ℕ → List Construct → List Refusal
at line constructs = map (λ c. record { construct = c; line = line }) constructs

-- ---- names that are given before

abbrev pub repeated : List Name → List (Name × ℕ) → List Refusal
repeated before [] = []
repeated before (n ∷ ns) = (if is_in before n.0 then at n.1 (DuplicateName ∷ []) else []) ++ repeated (n.0 ∷ before) ns

-- ---- types

-- within so many steps a name is reached from these
abbrev pub body_names : Option Ty → List Name
body_names None = []
body_names (Some ty) = names_in ty

abbrev pub leads_to : ℕ → List TypeDef → Name → List Name → Bool
leads_to zero types x names = is_in names x
leads_to (suc steps) types x names = if is_in names x then true else list_any (λ y. leads_to steps types x (body_names (type_given types y))) names

abbrev pub contains_itself : List TypeDef → TypeDef → Bool
contains_itself types d = leads_to (length types) types d.name (names_in d.body)

abbrev pub of_type : Module → TypeDef → List Refusal
of_type m d = at d.line (in_type m d.body ++ expects (not (contains_itself m.types d)))

-- ---- initializers

-- an array of bytes
abbrev pub is_bytes_of : ℕ → Ty-F Ty → Bool
is_bytes_of n (Ty-F.Array k item) = (k == n) && is_int_of 8 item
is_bytes_of n _ = false

abbrev pub are_items_of : List Ty → Ty-F Ty → Bool
are_items_of tys (Ty-F.Array n item) = (n == length tys) && list_all (same_type item) tys
are_items_of tys _ = false

abbrev pub are_pairwise_same : List Ty → List Ty → Bool
are_pairwise_same [] [] = true
are_pairwise_same (a ∷ as_) (b ∷ bs) = same_type a b && are_pairwise_same as_ bs
are_pairwise_same _ _ = false

abbrev pub are_fields_of : List Ty → Ty-F Ty → Bool
are_fields_of tys (Ty-F.Struct fields) = are_pairwise_same fields tys
are_fields_of tys _ = false

-- what is refused of an element, with its type
abbrev pub Part : Type 0
Part = Ty × List Construct

abbrev pub part_types : List Part → List Ty
part_types parts = map (λ p. p.0) parts

abbrev pub in_parts : List Part → List Construct
in_parts parts = flat_map (λ p. p.1) parts

abbrev pub init_layer : Module → Init-F (Ty → List Construct) Part → Ty → List Construct
init_layer m Init-F.Zero ty = []
init_layer m (Init-F.Int n) ty = expects (is_number_of n ty)
init_layer m Init-F.Null ty = expects (is_ptr ty)
init_layer m (Init-F.Addr x) ty = as_symbol false ty (symbol_given m x)
init_layer m (Init-F.Bytes bytes) ty = expects (is_bytes_of (length bytes) (shape_of m.types ty))
init_layer m (Init-F.Square parts) ty = in_parts parts ++ expects (are_items_of (part_types parts) (shape_of m.types ty))
init_layer m (Init-F.Braces parts) ty = in_parts parts ++ expects (are_fields_of (part_types parts) (shape_of m.types ty))

abbrev pub element_layer : Module → Element-F (Ty → List Construct) Part → Part
element_layer m e = (e.ty, in_type m e.ty ++ e.init e.ty)

abbrev pub in_init : Module → Ty → Init → List Construct
in_init m ty init = fold-Init (Ty → List Construct) Part (init_layer m) (element_layer m) init ty

-- ---- globals

abbrev pub if_entry_point : Name → List Construct
if_entry_point x = if is_entry_point x then Signature ∷ [] else []

-- a global has contents
abbrev pub in_contents : Module → Ty → Option Init → List Construct
in_contents m ty None = MissingName ∷ []
in_contents m ty (Some init) = in_init m ty init

abbrev pub of_global : Module → GlobalItem → List Refusal
of_global m g = at g.line (in_type m g.ty ++ in_contents m g.ty g.init ++ if_entry_point g.name)

-- ---- functions

abbrev pub are_declared : List Ty → List Param → Bool
are_declared [] [] = true
are_declared (ty ∷ tys) (p ∷ ps) = same_scalar ty p.ty && are_declared tys ps
are_declared _ _ = false

-- an i8 is taken beside the i16 of the level
abbrev pub is_result_of : Rtl → Ty → Bool
is_result_of ParallelLevel ty = if is_int_of 16 ty then true else is_int_of 8 ty
is_result_of r ty = same_result (entry_point r).result ty

abbrev pub is_declared_as : Function → Rtl → Bool
is_declared_as f r = bytes_eq f.name (entry_name r) && is_result_of r f.ret && are_declared (entry_point r).params f.params

abbrev pub in_declaration : Function → List Block → List Construct
in_declaration f [] = (if list_any (is_declared_as f) entry_points then [] else Signature ∷ []) ++ if_output f.name
in_declaration f (b ∷ bs) = Signature ∷ []

-- an entry point is declared, and with its types
abbrev pub in_signature : Function → List Construct
in_signature f = if is_entry_point f.name then in_declaration f f.blocks else []

abbrev pub in_param : Module → Param → List Construct
in_param m p = in_type m p.ty ++ expects (is_scalar p.ty)

abbrev pub is_result : Ty → Bool
is_result ty = if is_void ty then true else is_scalar ty

abbrev pub in_heading : Module → Function → List Construct
in_heading m f = in_type m f.ret ++ expects (is_result f.ret) ++ flat_map (in_param m) f.params ++ in_signature f

abbrev pub is_phi : Kind → Bool
is_phi (Phi ty edges) = true
is_phi _ = false

-- a phi stands behind phis alone
abbrev pub in_order : Bool → Kind → List Construct
in_order only_phis (Phi ty edges) = expects only_phis
in_order only_phis _ = []

abbrev pub of_insts : Scope → Name → Bool → List Inst → List Refusal
of_insts s b only_phis [] = []
of_insts s b only_phis (i ∷ is) = at i.line (in_inst s b i ++ in_order only_phis i.kind) ++ of_insts s b (only_phis && is_phi i.kind) is

abbrev pub of_block : Scope → Block → List Refusal
of_block s b = of_insts s b.name true b.insts

abbrev pub of_function : Module → Function → List Refusal
of_function m f =
    at f.line (in_heading m f) ++ repeated [] (map (λ n. (n.name, n.line)) (local_names f)) ++ flat_map (of_block (scope_of m f)) f.blocks

-- ---- the names of globals and functions, in which the second is the one of the later line, and on one line the function

abbrev pub global_names : Module → List (Name × ℕ)
global_names m = map (λ g. (g.name, g.line)) m.globals ++ map (λ f. (f.name, f.line)) m.functions

-- the second is given on the same line or before
abbrev pub is_behind : Name × ℕ → Name × ℕ → Bool
is_behind n k = bytes_eq n.0 k.0 && nat_le k.1 n.1

-- the second is given on an earlier line
abbrev pub is_far_behind : Name × ℕ → Name × ℕ → Bool
is_far_behind n k = bytes_eq n.0 k.0 && nat_lt k.1 n.1

abbrev pub is_second : Name × ℕ → (before behind : List (Name × ℕ)) → Bool
is_second n before behind = if list_any (is_behind n) before then true else list_any (is_far_behind n) behind

abbrev pub repeated_by_line : List (Name × ℕ) → List (Name × ℕ) → List Refusal
repeated_by_line before [] = []
repeated_by_line before (n ∷ ns) = (if is_second n before ns then at n.1 (DuplicateName ∷ []) else []) ++ repeated_by_line (n ∷ before) ns

-- ---- the whole

abbrev pub name_refusals : Module → List Refusal
name_refusals m =
    repeated [] (map (λ d. (d.name, d.line)) m.types) ++ flat_map (of_type m) m.types
    ++ repeated_by_line [] (global_names m) ++ flat_map (of_global m) m.globals ++ flat_map (of_function m) m.functions

-- the one of the lesser line, and on one line of the lesser number
abbrev pub is_before : Refusal → Refusal → Bool
is_before r s = if nat_lt r.line s.line then true else (r.line == s.line) && nat_lt (construct_number r.construct) (construct_number s.construct)

abbrev pub lesser : Refusal → Option Refusal → Option Refusal
lesser r None = Some r
lesser r (Some s) = if is_before s r then Some s else Some r

-- the least of the refusals
abbrev pub least : List Refusal → Option Refusal
least [] = None
least (r ∷ rs) = lesser r (least rs)
