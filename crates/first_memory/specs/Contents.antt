-- The bytes of an initializer, part by part.
use Rattle.std.specs.Prelude.{List}
use Rattle.ir_core.specs.declared.types.Ty.{Ty}
use Rattle.ir_core.specs.declared.module.Module.{Module}
use Rattle.ir_core.specs.declared.module.Init.{Init, fold-Init}
use Rattle.ir_core.specs.declared.module.Element.{Element}
use Rattle.ir_core.specs.Layout.{Size}
use Rattle.ir_core.specs.Places.{Name, function_place, global_place}
use Rattle.mem_model.specs.declared.memory.Byte.{Byte}
use Rattle.mem_model.specs.Values.{address_of}
use Rattle.mem_model.specs.Globals.{padded, Filled, init_layer, element_layer, found_bytes, with_field}

-- what an initializer gives a value of a type, without the padding behind
abbrev pub value_bytes : Module → Ty → Init → List Byte
value_bytes m ty init = fold-Init (Ty → List Byte) Filled (init_layer m) (element_layer m) init ty

-- an element, as many bytes as its type takes
abbrev pub element_bytes : Module → Element → List Byte
element_bytes m e = padded (Size m.types e.ty) (value_bytes m e.ty e.init)

-- a struct's fields with one more
abbrev pub with_element : Module → List Byte → Element → List Byte
with_element m before e = with_field m.types before (record { ty = e.ty; bytes = element_bytes m e })

abbrev pub address_bytes : Module → Name → List Byte
address_bytes m x = found_bytes (address_of (global_place m x) (function_place m x))
