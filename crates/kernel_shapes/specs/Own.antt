-- The registers that point into the stack of a block's instructions, as the code takes them.
use Rattle.std.specs.Prelude.{List, [], Bool, false, if◌then◌else◌}
use Rattle.std.specs.List.{flat_map}
use Rattle.indexmap.specs.IndexMap.{IndexMap}
use Rattle.std.specs.declared.alloc.Global.{Global}
use Rattle.std.specs.declared.vec.Vec.{Vec}
use Rattle.std.specs.Prelude.{ℕ}
use Rattle.ir_core.specs.declared.instructions.Value.{Value}
use Rattle.ir_core.specs.declared.instructions.Value.TheVariants.{Local as LocalValue}
use Rattle.ir_core.specs.declared.instructions.Kind.{Kind}
use Rattle.ir_core.specs.declared.instructions.Inst.{Inst}
use Rattle.ir_core.specs.Places.{Name, inst_results}
use Rattle.ir_core.specs.Wrappers.{is_in}
use Rattle.ir_tables.specs.Names.{HasPlaces}
use Rattle.shapes.specs.KernelShape.{makes_block, makes_own}

abbrev pub is_register_in : List Name → Value → Bool
is_register_in names (LocalValue x) = is_in names x
is_register_in names _ = false

abbrev pub result_where : Bool → Inst → List Name
result_where holds i = if holds then inst_results i else []

-- the registers of the instructions of a kind
abbrev pub names_where : (Kind → Bool) → List Inst → List Name
names_where holds insts = flat_map (λ i. result_where (holds i.kind) i) insts

abbrev pub HasAllocas : {S : Type 0} → List Inst → IndexMap (Vec ℕ Global) ℕ S → Type 0
HasAllocas insts table = HasPlaces (names_where makes_block insts) table

abbrev pub HasOwnPointers : {S : Type 0} → List Inst → IndexMap (Vec ℕ Global) ℕ S → Type 0
HasOwnPointers insts table = HasPlaces (names_where (makes_own insts) insts) table
