-- What is kept of the names of a function: of a register its type, where that is a scalar type.
use Rattle.std.specs.Prelude.{ℕ, List, ◌∷◌, map, Bool, true, false, Option, Some, None}
use Rattle.std.specs.List.{flat_map}
use Rattle.std.specs.Borrow.{Bor}
use Rattle.ir_core.specs.declared.types.Ty.{Ty}
use Rattle.ir_core.specs.declared.types.Ty.TheVariants.{Int as IntTy, Ptr as PtrTy}
use Rattle.ir_core.specs.declared.module.Block.{Block}
use Rattle.ir_core.specs.FirstForm.{is_width, is_int_of, is_ptr}
use Rattle.ir_core.specs.Given.{Local as LocalGiven, Register as RegisterGiven, Label as LabelGiven, LocalName, inst_names}
use Rattle.ir_core.specs.declared.types.Scalar.{Scalar}
use Rattle.ir_core.specs.declared.types.Scalar.TheVariants.{Int, Ptr}
use Rattle.name_tables.specs.declared.locals.Local.{Local}
use Rattle.name_tables.specs.declared.locals.Local.TheVariants.{Register, Label}

abbrev pub scalar_of : Ty → Option Scalar
scalar_of (IntTy width) = Some (Int width)
scalar_of PtrTy = Some Ptr
scalar_of _ = None

abbrev pub is_of : Option Scalar → Ty → Bool
is_of (Some (Int width)) ty = is_int_of width ty
is_of (Some Ptr) ty = is_ptr ty
is_of None ty = false

abbrev pub is_register_type : Option Scalar → Bool
is_register_type (Some (Int width)) = is_width width
is_register_type (Some Ptr) = true
is_register_type None = false

abbrev pub local_kept : LocalGiven → Local
local_kept (RegisterGiven ty) = Register (scalar_of ty)
local_kept (LabelGiven place) = Label place

-- a name, its line and what it is
abbrev pub Kept : Type 0
Kept = List ℕ × ℕ × Local

abbrev pub name_kept : LocalName → Kept
name_kept n = (n.name, n.line, local_kept n.given)

abbrev pub kept_seen : Bor (List ℕ) × ℕ × Local → Kept
kept_seen k = (k.0.now, k.1, k.2)

abbrev pub all_seen : List (Bor (List ℕ) × ℕ × Local) → List Kept
all_seen ks = map kept_seen ks

abbrev pub all_kept : List LocalName → List Kept
all_kept names = map name_kept names

abbrev pub kept_name : Kept → List ℕ
kept_name k = k.0

abbrev pub kept_local : Kept → Local
kept_local k = k.2

-- the names of the block at a place
abbrev pub one_block : ℕ → Block → List LocalName
one_block at b = record { name = b.name; line = b.line; given = LabelGiven at } ∷ flat_map inst_names b.insts
