-- What globals hold at first: their initializers, by the layout of their types, with zero bytes as padding
-- (LLVM Language Reference, "Global Variables").
use Rattle.std.specs.Prelude.{ℕ, ◌+◌, ◌-◌, List, [], ◌∷◌, ◌++◌, length, map, replicate, Option, Some, None, Result, Ok, Err}
use Rattle.std.specs.List.{flat_map, fold}
use Rattle.ir_core.specs.declared.types.Ty.{Ty}
use Rattle.ir_core.specs.declared.module.Module.{Module}
use Rattle.ir_core.specs.declared.module.TypeDef.{TypeDef}
use Rattle.ir_core.specs.declared.module.Global.{Global}
use Rattle.ir_core.specs.declared.module.Init.{Init, fold-Init}
use Rattle.ir_core.specs.declared.module.Init.TheOpen.{Init-F, Element-F}
use Rattle.ir_core.specs.Layout.{Size, the_layout, aligned}
use Rattle.mem_model.specs.declared.memory.BlockName.TheVariants.{Global as GlobalBlock}
use Rattle.mem_model.specs.declared.memory.Ptr.TheVariants.{Num as Number}
use Rattle.mem_model.specs.declared.memory.Byte.{Byte}
use Rattle.mem_model.specs.declared.memory.Byte.TheVariants.{Num}
use Rattle.mem_model.specs.declared.memory.Word.{Word}
use Rattle.mem_model.specs.declared.memory.Word.TheVariants.{Int, Ptr as Address}
use Rattle.mem_model.specs.declared.memory.Cell.TheVariants.{Ptr as PtrCell}
use Rattle.mem_model.specs.declared.step.Trap.{Trap}
use Rattle.mem_model.specs.Words.{word_bytes}
use Rattle.mem_model.specs.Memory.{Memory, with_block}
use Rattle.mem_model.specs.Values.{cell_of, address_of}
use Rattle.ir_core.specs.Places.{function_place, global_place}

-- with zero bytes behind, up to a size
abbrev pub padded : ℕ → List Byte → List Byte
padded size bytes = bytes ++ replicate (size - length bytes) (Num 0)

-- a part of an initializer: its type, and the bytes that it gives
pub record Filled : Type 0 where
  pub ty : Ty
  pub bytes : List Byte

abbrev pub filled_bytes : Filled → List Byte
filled_bytes e = e.bytes

-- a struct's field behind the fields before it
abbrev pub with_field : List TypeDef → List Byte → Filled → List Byte
with_field types before e = padded (aligned (length before) (the_layout types e.ty).align) before ++ e.bytes

abbrev pub found_bytes : Result Word Trap → List Byte
found_bytes (Err trap) = []
found_bytes (Ok word) = word_bytes PtrCell word

-- without the padding behind
abbrev pub init_layer : Module → Init-F (Ty → List Byte) Filled → Ty → List Byte
init_layer m Init-F.Zero ty = []
init_layer m (Init-F.Int n) ty = word_bytes (cell_of ty) (Int n)
init_layer m Init-F.Null ty = word_bytes PtrCell (Address (Number 0))
init_layer m (Init-F.Addr x) ty = found_bytes (address_of (global_place m x) (function_place m x))
init_layer m (Init-F.Bytes bytes) ty = map Num bytes
init_layer m (Init-F.Square elements) ty = flat_map filled_bytes elements
init_layer m (Init-F.Braces elements) ty = fold (with_field m.types) [] elements

abbrev pub element_layer : Module → Element-F (Ty → List Byte) Filled → Filled
element_layer m e = record { ty = e.ty; bytes = padded (Size m.types e.ty) (e.init e.ty) }

abbrev pub init_bytes : Module → Ty → Init → List Byte
init_bytes m ty init = padded (Size m.types ty) (fold-Init (Ty → List Byte) Filled (init_layer m) (element_layer m) init ty)

abbrev pub contents : Module → Ty → Option Init → List Byte
contents m ty None = []
contents m ty (Some init) = init_bytes m ty init

-- each global from number i on as a block
abbrev pub with_globals : Module → ℕ → List Global → Memory → Memory
with_globals m i [] memory = memory
with_globals m i (g ∷ gs) memory = with_globals m (i + 1) gs (with_block memory (GlobalBlock i) g.constant (contents m g.ty g.init))
