-- A layout as a table keeps it: in numbers below 2^64.
use Rattle.std.specs.Prelude.{◌≡◌, ℕ, ◌+◌, ◌*◌, ◌%◌, ◌^◌, ◌-◌, min, List, [], ◌∷◌, map, Option, Some, None, option_map, if◌then◌else◌, ◌==◌, ℤ}
use Rattle.std.specs.Int.{w64, cast_signed}
use Rattle.ir_core.specs.declared.types.Ty.{Ty, fold-Ty}
use Rattle.ir_core.specs.declared.types.Ty.TheOpen.{Ty-F}
use Rattle.ir_core.specs.Layout.{Layout, aligned}
use Rattle.ir_tables.specs.declared.laid.Align.{Align}
use Rattle.ir_tables.specs.declared.laid.Align.TheVariants.{One, Two, Four, Eight}
use Rattle.ir_tables.specs.declared.laid.Laid.{Laid}

abbrev pub align_bytes : Align → ℕ
align_bytes One = 1
align_bytes Two = 2
align_bytes Four = 4
align_bytes Eight = 8

-- a number of bytes, 2^64-1 for more than that
abbrev pub cut : ℕ → ℕ
cut n = min n (2 ^ 64 - 1)

-- what is kept is a layout: its size cut, its size modulo 2^64, and its alignment
pub record Keeps (laid : Laid) (l : Layout) : Type 0 where
  pub size : laid.size ≡ cut l.size
  pub low : laid.low ≡ l.size % 2 ^ 64
  pub align : align_bytes laid.align ≡ l.align

-- the same where there may be none
abbrev pub AreKept : Option Laid → Option Layout → Type 0
AreKept None None = Unit {0}
AreKept None (Some l) = ⊥
AreKept (Some a) None = ⊥
AreKept (Some a) (Some l) = Keeps a l

-- a value of so many bytes at multiples of that
abbrev pub scalar_laid : Align → Laid
scalar_laid align = record { size = align_bytes align; low = align_bytes align; align = align }

abbrev pub integer_laid : ℕ → Option Laid
integer_laid width = if width == 1 then Some (scalar_laid One) else if width == 8 then Some (scalar_laid One) else if width == 16 then Some (scalar_laid Two) else if width == 32 then Some (scalar_laid Four) else if width == 64 then Some (scalar_laid Eight) else None

abbrev pub array_laid : ℕ → Laid → Laid
array_laid n item = record { size = cut (n * item.size); low = (n * item.low) % 2 ^ 64; align = item.align }

-- ---- structs

-- a struct without fields
abbrev pub empty_laid : Laid
empty_laid = record { size = 0; low = 0; align = One }

abbrev pub greater : Align → Align → Align
greater Eight b = Eight
greater Four Eight = Eight
greater Four b = Four
greater Two One = Two
greater Two b = b
greater One b = b

-- with one more field, not yet padded
abbrev pub with_field : Laid → Laid → Laid
with_field whole field = record {
  size = cut (cut (aligned whole.size (align_bytes field.align)) + field.size);
  low = (aligned whole.low (align_bytes field.align) + field.low) % 2 ^ 64;
  align = greater whole.align field.align;
}

abbrev pub padded : Laid → Laid
padded whole = record { size = cut (aligned whole.size (align_bytes whole.align)); low = aligned whole.low (align_bytes whole.align) % 2 ^ 64; align = whole.align }

-- the fields behind those of a struct so far; none where one has no layout
abbrev pub with_fields : Laid → List (Option Laid) → Option Laid
with_fields whole [] = Some whole
with_fields whole (None ∷ fields) = None
with_fields whole (Some field ∷ fields) = with_fields (with_field whole field) fields

-- ---- types

abbrev pub layer_laid : (List ℕ → Option Laid) → Ty-F (Option Laid) → Option Laid
layer_laid named Ty-F.Void = None
layer_laid named (Ty-F.Int width) = integer_laid width
layer_laid named Ty-F.Ptr = Some (scalar_laid Eight)
layer_laid named (Ty-F.Array n item) = option_map (array_laid n) item
layer_laid named (Ty-F.Struct fields) = option_map padded (with_fields empty_laid fields)
layer_laid named (Ty-F.Named x) = named x

-- what is kept of a type's layout, by what is kept of the named ones
abbrev pub laid_of : (List ℕ → Option Laid) → Ty → Option Laid
laid_of named = fold-Ty (Option Laid) (layer_laid named)

abbrev pub fields_laid : (List ℕ → Option Laid) → List Ty → Option Laid
fields_laid named fields = with_fields empty_laid (map (laid_of named) fields)

-- ---- offsets

-- how many bytes a value takes, modulo 2^64 as a signed number; 0 without a layout
abbrev pub stride : Option Laid → ℤ
stride None = cast_signed w64 0
stride (Some laid) = cast_signed w64 laid.low

-- where a field starts behind those before it, likewise
abbrev pub start : Option Laid → Option Laid → ℤ
start None field = cast_signed w64 0
start (Some whole) None = cast_signed w64 0
start (Some whole) (Some field) = cast_signed w64 (aligned whole.low (align_bytes field.align) % 2 ^ 64)
