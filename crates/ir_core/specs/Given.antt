-- What the names of a module and of its functions are given as (LLVM Language Reference, "Identifiers"). Where a name is given twice,
-- it is given as the first by line.
use Rattle.std.specs.Prelude.{ℕ, zero, suc, ◌+◌, List, [], ◌∷◌, ◌++◌, map, length, Bool, true, false, Option, Some, None, option_map, nat_lt, ◌==◌, ◌&&◌, if◌then◌else◌}
use Rattle.std.specs.List.{flat_map, find}
use Rattle.std.specs.Str.{bytes_eq}
use Rattle.ir_core.specs.declared.types.Ty.{Ty, out-Ty, fold-Ty}
use Rattle.ir_core.specs.declared.types.Ty.TheOpen.{Ty-F}
use Rattle.ir_core.specs.declared.types.Ty.TheVariants.{Void, Int as IntTy, Ptr}
use Rattle.ir_core.specs.declared.instructions.Kind.{Kind}
use Rattle.ir_core.specs.declared.instructions.Kind.TheVariants.{Bin, ICmp, Cast, Select, Phi, Alloca, Load, Rmw, Gep, Call}
use Rattle.ir_core.specs.declared.instructions.Inst.{Inst}
use Rattle.ir_core.specs.declared.module.Module.{Module}
use Rattle.ir_core.specs.declared.module.TypeDef.{TypeDef}
use Rattle.ir_core.specs.declared.module.Global.{Global as GlobalItem}
use Rattle.ir_core.specs.declared.module.Function.{Function}
use Rattle.ir_core.specs.declared.module.Param.{Param}
use Rattle.ir_core.specs.declared.module.Block.{Block}
use Rattle.ir_core.specs.Places.{Name}

-- ---- types

-- the names in a type, as it is written
abbrev pub named_in_layer : Ty-F (List Name) → List Name
named_in_layer (Ty-F.Array n item) = item
named_in_layer (Ty-F.Struct fields) = flat_map (λ names. names) fields
named_in_layer (Ty-F.Named x) = x ∷ []
named_in_layer _ = []

abbrev pub names_in : Ty → List Name
names_in = fold-Ty (List Name) named_in_layer

abbrev pub all_same : List (Ty → Bool) → List Ty → Bool
all_same [] [] = true
all_same (is ∷ more) (ty ∷ tys) = is ty && all_same more tys
all_same _ _ = false

-- the same type, as it is written
abbrev pub same_layer : Ty-F (Ty → Bool) → Ty-F Ty → Bool
same_layer Ty-F.Void Ty-F.Void = true
same_layer (Ty-F.Int width) (Ty-F.Int other) = width == other
same_layer Ty-F.Ptr Ty-F.Ptr = true
same_layer (Ty-F.Array n item) (Ty-F.Array k ty) = (n == k) && item ty
same_layer (Ty-F.Struct fields) (Ty-F.Struct tys) = all_same fields tys
same_layer (Ty-F.Named x) (Ty-F.Named y) = bytes_eq x y
same_layer _ _ = false

abbrev pub same_type : Ty → Ty → Bool
same_type = fold-Ty (Ty → Bool) (λ layer other. same_layer layer (out-Ty other))

abbrev pub type_given : List TypeDef → Name → Option Ty
type_given types x = option_map (λ d. d.body) (find (λ d. bytes_eq d.name x) types)

abbrev pub given_through : (Ty → Ty-F Ty) → Name → Option Ty → Ty-F Ty
given_through go x None = Ty-F.Named x
given_through go x (Some ty) = go ty

abbrev pub layer_through : (Ty → Ty-F Ty) → List TypeDef → Ty-F Ty → Ty-F Ty
layer_through go types (Ty-F.Named x) = given_through go x (type_given types x)
layer_through go types layer = layer

-- a type with names looked through, at most so many
abbrev pub looked_through : ℕ → List TypeDef → Ty → Ty-F Ty
looked_through zero types ty = out-Ty ty
looked_through (suc names) types ty = layer_through (looked_through names types) types (out-Ty ty)

-- what a type is, where it is a name what the name stands for
abbrev pub shape_of : List TypeDef → Ty → Ty-F Ty
shape_of types ty = looked_through (length types) types ty

-- ---- globals and functions

pub data Symbol : Type 0 where
  Variable : Symbol
  Routine : Function → Symbol

abbrev pub first_symbol : Option GlobalItem → Option Function → Option Symbol
first_symbol None None = None
first_symbol (Some g) None = Some Variable
first_symbol None (Some f) = Some (Routine f)
first_symbol (Some g) (Some f) = if nat_lt f.line g.line then Some (Routine f) else Some Variable

-- on one line the function is the second
abbrev pub symbol_given : Module → Name → Option Symbol
symbol_given m x = first_symbol (find (λ g. bytes_eq g.name x) m.globals) (find (λ f. bytes_eq f.name x) m.functions)

-- ---- the names of a function: parameters, blocks and results, in the order of the text

-- a register of a type, or the block at a place
pub data Local : Type 0 where
  Register : Ty → Local
  Label : ℕ → Local

pub record LocalName : Type 0 where
  pub name : Name
  pub line : ℕ
  pub given : Local

-- the type of an instruction's result
abbrev pub result_type : Kind → Ty
result_type (Bin op flags ty a b) = ty
result_type (ICmp pred ty a b) = IntTy 1
result_type (Cast op from to) = to
result_type (Select c a b) = a.ty
result_type (Phi ty edges) = ty
result_type (Alloca ty align) = Ptr
result_type (Load ty at order align) = ty
result_type (Rmw op at value order align) = value.ty
result_type (Gep inbounds ty base path) = Ptr
result_type (Call tail_word ret callee operands) = ret
result_type _ = Void

abbrev pub result_name : Inst → Option Name → List LocalName
result_name i None = []
result_name i (Some x) = record { name = x; line = i.line; given = Register (result_type i.kind) } ∷ []

abbrev pub inst_names : Inst → List LocalName
inst_names i = result_name i i.result

abbrev pub block_names : ℕ → List Block → List LocalName
block_names at [] = []
block_names at (b ∷ bs) = record { name = b.name; line = b.line; given = Label at } ∷ flat_map inst_names b.insts ++ block_names (at + 1) bs

abbrev pub param_name : ℕ → Param → LocalName
param_name line p = record { name = p.name; line = line; given = Register p.ty }

abbrev pub local_names : Function → List LocalName
local_names f = map (param_name f.line) f.params ++ block_names 0 f.blocks

abbrev pub local_given : List LocalName → Name → Option Local
local_given names x = option_map (λ n. n.given) (find (λ n. bytes_eq n.name x) names)
