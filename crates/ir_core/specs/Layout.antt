-- How values of a type lie in memory: one fixed natural layout (LLVM Language Reference, "Data Layout"), in which an
-- integer of 8 bits or more is as large and as aligned as its bits, an i1 is one byte and a pointer eight, and structs are padded.
use Rattle.std.specs.Prelude.{ℕ, zero, suc, ◌+◌, ◌-◌, ◌*◌, ◌/◌, ◌==◌, max, ℤ, pos, negsuc, ◌+ℤ◌, ◌*ℤ◌, List, [], ◌∷◌, map, take, length, slice_get, Bool, true, Option, Some, None, IsSome, option_map, option_and_then, if◌then◌else◌}
use Rattle.std.specs.List.{filter, fold}
use Rattle.std.specs.Str.{bytes_eq}
use Rattle.std.specs.Int.{int_wrap, w64}
use Rattle.ir_core.specs.declared.types.Ty.{Ty, out-Ty, fold-Ty}
use Rattle.ir_core.specs.declared.types.Ty.TheOpen.{Ty-F}
use Rattle.ir_core.specs.declared.module.TypeDef.{TypeDef}

-- ---- sizes

-- how many bytes a value takes, and the number whose multiples it stands at
pub record Layout : Type 0 where
  pub size : ℕ
  pub align : ℕ

-- the widths of integers
abbrev pub is_width : ℕ → Bool
is_width n = if n == 1 then true else if n == 8 then true else if n == 16 then true else if n == 32 then true else n == 64

abbrev pub scalar_layout : ℕ → Layout
scalar_layout size = record { size = size; align = size }

abbrev pub integer_layout : ℕ → Option Layout
integer_layout width = if is_width width then Some (scalar_layout ((width + 7) / 8)) else None

-- the least multiple of the alignment that is not below n
abbrev pub aligned : ℕ → ℕ → ℕ
aligned n align = (n + (align - 1)) / align * align

-- the end of a struct's field, where the fields before it end
abbrev pub field_end : ℕ → Layout → ℕ
field_end end field = aligned end field.align + field.size

abbrev pub greater_align : ℕ → Layout → ℕ
greater_align align field = max align field.align

-- the fields come one after another, each at its alignment, and the struct is padded to the greatest of them
abbrev pub struct_layout : List Layout → Layout
struct_layout fields = record { size = aligned (fold field_end 0 fields) (fold greater_align 1 fields); align = fold greater_align 1 fields }

-- the layouts of a struct's fields, where each has one
abbrev pub all_some : List (Option Layout) → Option (List Layout)
all_some [] = Some []
all_some (o ∷ os) = option_and_then (λ l. option_map (λ ls. l ∷ ls) (all_some os)) o

abbrev pub array_layout : ℕ → Layout → Layout
array_layout n item = record item { size = n * item.size }

abbrev pub layer_layout : (List ℕ → Option Layout) → Ty-F (Option Layout) → Option Layout
layer_layout named Ty-F.Void = None
layer_layout named (Ty-F.Int width) = integer_layout width
layer_layout named Ty-F.Ptr = Some (scalar_layout 8)
layer_layout named (Ty-F.Array n item) = option_map (array_layout n) item
layer_layout named (Ty-F.Struct fields) = option_map struct_layout (all_some fields)
layer_layout named (Ty-F.Named x) = named x

-- ---- named types

abbrev pub only_one : List TypeDef → Option Ty
only_one (d ∷ []) = Some d.body
only_one _ = None

-- what the one type of this name is; none where there is no such type, or more than one
abbrev pub body_of : List TypeDef → List ℕ → Option Ty
body_of types x = only_one (filter (λ d. bytes_eq d.name x) types)

-- with names looked through so deep
abbrev pub named_layout : ℕ → List TypeDef → List ℕ → Option Layout
named_layout zero types x = None
named_layout (suc depth) types x = option_and_then (fold-Ty (Option Layout) (layer_layout (named_layout depth types))) (body_of types x)

-- a type's layout. No chain of names is longer than there are types, unless a type contains itself: it then has none, like a type
-- with void, an integer of another width, or a name that isn't that of exactly one type in it
abbrev pub layout_of : List TypeDef → Ty → Option Layout
layout_of types = fold-Ty (Option Layout) (layer_layout (named_layout (length types) types))

abbrev pub WellFormed : List TypeDef → Ty → Type 0
WellFormed types ty = IsSome (layout_of types ty)

abbrev pub no_layout : Layout
no_layout = record { size = 0; align = 1 }

abbrev pub or_no_layout : Option Layout → Layout
or_no_layout None = no_layout
or_no_layout (Some l) = l

abbrev pub the_layout : List TypeDef → Ty → Layout
the_layout types ty = or_no_layout (layout_of types ty)

-- how many bytes a value of a well-formed type takes
abbrev pub Size : List TypeDef → Ty → ℕ
Size types ty = (the_layout types ty).size

-- ---- offsets

-- what an index can go into
pub data Parts : Type 0 where
  Items : Ty → Parts
  Fields : List Ty → Parts
  NoParts : Parts

abbrev pub layer_parts : (List ℕ → Parts) → Ty-F Ty → Parts
layer_parts named (Ty-F.Array n item) = Items item
layer_parts named (Ty-F.Struct fields) = Fields fields
layer_parts named (Ty-F.Named x) = named x
layer_parts named _ = NoParts

abbrev pub body_parts : (List ℕ → Parts) → Option Ty → Parts
body_parts named None = NoParts
body_parts named (Some ty) = layer_parts named (out-Ty ty)

abbrev pub named_parts : ℕ → List TypeDef → List ℕ → Parts
named_parts zero types x = NoParts
named_parts (suc depth) types x = body_parts (named_parts depth types) (body_of types x)

abbrev pub parts_of : List TypeDef → Ty → Parts
parts_of types ty = layer_parts (named_parts (length types) types) (out-Ty ty)

-- where a field starts, behind the fields before it
abbrev pub field_start : List TypeDef → List Ty → Ty → ℕ
field_start types before field = aligned (fold field_end 0 (map (the_layout types) before)) (the_layout types field).align

abbrev pub plus : ℤ → Option ℤ → Option ℤ
plus n = option_map (λ m. n +ℤ m)

-- goes on into a field with what is left of the path
abbrev pub into_field : List TypeDef → (Ty → Option ℤ) → List Ty → Option Ty → Option ℤ
into_field types go before None = None
into_field types go before (Some field) = plus (pos (field_start types before field)) (go field)

abbrev pub into : List TypeDef → (Ty → Option ℤ) → ℤ → Parts → Option ℤ
into types go i (Items item) = plus (i *ℤ pos (Size types item)) (go item)
into types go (pos i) (Fields fields) = into_field types go (take i fields) (slice_get fields i)
into types go (negsuc i) (Fields fields) = None
into types go i NoParts = None

-- what indices add that go into a type
abbrev pub inner_offset : List TypeDef → List ℤ → Ty → Option ℤ
inner_offset types [] ty = Some (pos 0)
inner_offset types (i ∷ path) ty = into types (inner_offset types path) i (parts_of types ty)

-- what a getelementptr of a type adds by a path, modulo 2^64 as a signed number: the first index counts whole values, each further one
-- goes into the type; none where an index is out of a struct's fields or goes into a type without parts (LLVM Language Reference, "getelementptr")
abbrev pub Offset : List TypeDef → Ty → List ℤ → Option ℤ
Offset types ty [] = Some (pos 0)
Offset types ty (i ∷ path) = option_map (λ n. int_wrap w64 n) (plus (i *ℤ pos (Size types ty)) (inner_offset types path ty))
