-- Types without void and without integers of other widths.
use Rattle.std.specs.Prelude.{Bool, true, false}
use Rattle.std.specs.List.{list_all}
use Rattle.ir_core.specs.declared.types.Ty.{Ty, fold-Ty}
use Rattle.ir_core.specs.declared.types.Ty.TheOpen.{Ty-F}
use Rattle.ir_core.specs.Layout.{is_width}

abbrev pub sized_layer : Ty-F Bool → Bool
sized_layer Ty-F.Void = false
sized_layer (Ty-F.Int width) = is_width width
sized_layer Ty-F.Ptr = true
sized_layer (Ty-F.Array n item) = item
sized_layer (Ty-F.Struct fields) = list_all (λ is. is) fields
sized_layer (Ty-F.Named x) = true

-- the parts of a type, as it is written, have sizes, but for names
abbrev pub are_parts_sized : Ty → Bool
are_parts_sized = fold-Ty Bool sized_layer
