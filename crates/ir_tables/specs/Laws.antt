-- What the layout of a few types is.
use Rattle.std.specs.Prelude.{◌≡◌, ℕ, ℤ, pos, negsuc, List, [], ◌∷◌, codes, Option, Some, None}
use Rattle.ir_core.specs.declared.types.Ty.{Ty}
use Rattle.ir_core.specs.declared.types.Ty.TheVariants.{Int, Ptr, Array, Struct, Named}
use Rattle.ir_core.specs.declared.module.TypeDef.{TypeDef}
use Rattle.ir_core.specs.Layout.{layout_of, Offset}

-- a type takes so many bytes and stands at multiples of that, where no type has a name
abbrev pub HasLayout : Ty → ℕ → ℕ → Type 0
HasLayout ty size align = layout_of [] ty ≡ Some (record { size = size; align = align })

-- fields of the same size follow each other, and a pointer stands at a multiple of eight
abbrev pub FourNumbersAndPointer : Type 0
FourNumbersAndPointer = HasLayout (Struct (Int 32 ∷ Int 32 ∷ Int 32 ∷ Int 32 ∷ Ptr ∷ [])) 24 8

-- a field is padded to its alignment
abbrev pub ByteAndWord : Type 0
ByteAndWord = HasLayout (Struct (Int 8 ∷ Int 64 ∷ [])) 16 8

-- a struct is padded at its end, so that the next one is aligned
abbrev pub ArrayOfStructs : Type 0
ArrayOfStructs = HasLayout (Array 3 (Struct (Int 8 ∷ Int 16 ∷ []))) 12 2

abbrev pub NoFields : Type 0
NoFields = HasLayout (Struct []) 0 1

-- %a = type { i32, %a }
abbrev pub itself : List TypeDef
itself = record { name = codes "a"; body = Struct (Int 32 ∷ Named (codes "a") ∷ []); line = 1 } ∷ []

-- a type that contains itself has no layout
abbrev pub ContainsItself : Type 0
ContainsItself = layout_of itself (Named (codes "a")) ≡ None

abbrev pub HasOffset : Ty → List ℤ → Option ℤ → Type 0
HasOffset ty path offset = Offset [] ty path ≡ offset

-- an index into an array counts its items
abbrev pub FirstItem : Type 0
FirstItem = HasOffset (Array 1 Ptr) (pos 0 ∷ pos 0 ∷ []) (Some (pos 0))

-- the first index counts whole values, the second is that of a field
abbrev pub FieldOfThird : Type 0
FieldOfThird = HasOffset (Struct (Int 8 ∷ Int 64 ∷ Int 8 ∷ [])) (pos 2 ∷ pos 1 ∷ []) (Some (pos 56))

abbrev pub OneBack : Type 0
OneBack = HasOffset (Int 32) (negsuc 0 ∷ []) (Some (negsuc 3))

abbrev pub NoSuchField : Type 0
NoSuchField = HasOffset (Struct (Int 8 ∷ [])) (pos 0 ∷ pos 1 ∷ []) None
