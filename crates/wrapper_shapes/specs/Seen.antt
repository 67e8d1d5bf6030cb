-- How the code holds what is known of a wrapper's registers.
use Rattle.std.specs.Prelude.{ℕ, List, [], ◌∷◌, map, Bool, true, false, Option, Some, None, option_map}
use Rattle.std.specs.Borrow.{Bor}
use Rattle.std.specs.Str.{bytes_eq}
use Rattle.std.specs.declared.alloc.Global.{Global}
use Rattle.std.specs.declared.vec.Vec.{Vec}
use Rattle.indexmap.specs.IndexMap.{IndexMap, get_by}
use Rattle.std.specs.Option.{option_copied}
use Rattle.ir_core.specs.declared.instructions.Inst.{Inst}
use Rattle.ir_core.specs.declared.module.Function.{Function}
use Rattle.ir_core.specs.Places.{Name}
use Rattle.ir_core.specs.Wrappers.{captures_of}
use Rattle.shapes.specs.Walk as walk
use Rattle.wrapper_shapes.specs.declared.slots.Form.{Form}
use Rattle.wrapper_shapes.specs.declared.slots.Form.TheVariants.{Bits, Pointer}
use Rattle.wrapper_shapes.specs.declared.slots.Given.{Given}
use Rattle.wrapper_shapes.specs.declared.slots.Given.TheVariants.{Zero, Thread, Number, Area, Address, Word}
use Rattle.wrapper_shapes.specs.declared.slots.Slot.{Slot}
use Rattle.wrapper_shapes.specs.declared.slots.Known.{Known}
use Rattle.wrapper_shapes.specs.declared.slots.Known.TheVariants.{Stack, Is}
use Rattle.wrapper_shapes.specs.declared.walks.Walk.{Walk}

abbrev pub form_seen : Form → walk.Form
form_seen (Bits n) = walk.Bits n
form_seen Pointer = walk.Pointer

abbrev pub forms_seen : List Form → List walk.Form
forms_seen forms = map form_seen forms

abbrev pub given_seen : Given → walk.Given
given_seen Zero = walk.Zero
given_seen Thread = walk.Thread
given_seen (Number n) = walk.Number n
given_seen Area = walk.Area
given_seen (Address k) = walk.Address k
given_seen (Word k f) = walk.Word k (form_seen f)

abbrev pub slot_seen : Slot → walk.Slot
slot_seen s = record { form = form_seen s.form; stored = s.stored; holds = given_seen s.holds }

abbrev pub known_seen : Known → walk.Known
known_seen (Stack s) = walk.IsSlot (slot_seen s)
known_seen (Is g) = walk.Is (given_seen g)

-- ---- the walk

-- what a table says of a name
abbrev pub known_in : {S : Type 0} → IndexMap (Vec ℕ Global) Known S → Name → Option walk.Known
known_in table x = option_map known_seen (get_by (λ (k : Vec ℕ Global). bytes_eq x k.items) table)

abbrev pub read_after : List ℕ → List ℕ → List ℕ
read_after read [] = read
read_after read (k ∷ ks) = read_after (k ∷ read) ks

abbrev pub walk_seen : Walk → walk.Walk
walk_seen w = record { known = known_in w.known; asked = w.asked; read = read_after [] w.read.keys; passed = option_map forms_seen w.passed }

-- a walk that goes on, or doesn't
abbrev pub went : Bool → walk.Walk → Option walk.Walk
went true w = Some w
went false w = None

-- the walk behind an instruction of a wrapper with this region function
abbrev pub step_for : Option Function → walk.Walk → Inst → Option walk.Walk
step_for region w i = walk.step_kind (captures_of region) region w i.result i.kind

-- the region functions of a list of functions
abbrev pub region_seen : Option (Bor Function) → Option Function
region_seen f = option_copied f

abbrev pub regions_seen : List (Option (Bor Function)) → List (Option Function)
regions_seen regions = map region_seen regions
