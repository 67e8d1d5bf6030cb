-- What the calls that move a thread on make of its state.
use Rattle.std.specs.Prelude.{◌≡◌, ℕ, ◌+◌, List, [], ◌∷◌, reverse, slice_set, Option, Some, None}
use Rattle.ir_core.specs.declared.module.Module.{Module}
use Rattle.ir_core.specs.Places.{Name, place_in, register_names}
use Rattle.mem_model.specs.declared.memory.Word.{Word}
use Rattle.mem_model.specs.declared.phase.Phase.{Phase}
use Rattle.mem_model.specs.declared.phase.Phase.TheVariants.{Begins}
use Rattle.mem_model.specs.Thread.{Registers, Code, Frame, ThreadState, no_registers, assigned}
use Rattle.thread_state.specs.declared.state.Frame.{Frame as FrameData}
use Rattle.thread_state.specs.declared.state.ThreadState.{ThreadState as ThreadData}
use Rattle.thread_state.specs.Seen.{thread_seen, IsThread}

-- ---- the innermost call

abbrev pub first_registers : List Frame → Registers
first_registers [] = no_registers
first_registers (f ∷ rest) = f.code.registers

abbrev pub first_names : Module → List FrameData → List Name
first_names m [] = []
first_names m (f ∷ outer) = register_names m f.function

-- the names of the registers of the innermost call
abbrev pub names_of : Module → ThreadData → List Name
names_of m s = first_names m (reverse s.frames.items)

abbrev pub first_index : List FrameData → ℕ
first_index [] = 0
first_index (f ∷ outer) = f.index

-- the place of the innermost call in its block
abbrev pub index_of : ThreadData → ℕ
index_of s = first_index (reverse s.frames.items)

abbrev pub first_room : List FrameData → List Word
first_room [] = []
first_room (f ∷ outer) = f.room

-- the words in the room of the innermost call
abbrev pub room_of : ThreadData → List Word
room_of s = first_room (reverse s.frames.items)

abbrev pub on_first : (Code → Code) → List Frame → List Frame
on_first go [] = []
on_first go (f ∷ rest) = record f { code = go f.code } ∷ rest

-- the state with the innermost call moved on, as `goes_on` and `goes_past` have it; one without calls as it is
abbrev pub on_innermost : (Code → Code) → ThreadState → ThreadState
on_innermost go t = record t { frames = on_first go t.frames }

-- the innermost call moves on, and what stands for a state stands for one behind it
abbrev pub Moves : (Code → Code) → Module → ThreadData → ThreadData → Type 0
Moves go m old new = IsThread m new × (thread_seen m new ≡ on_innermost go (thread_seen m old))

-- ---- what becomes of it

-- a result's register is at this place; none for no result
abbrev pub IsPlaceOf : List Name → Option Name → Option ℕ → Type 0
IsPlaceOf names None None = Unit {0}
IsPlaceOf names None (Some n) = ⊥
IsPlaceOf names (Some x) register = (n : ℕ) × (register ≡ Some n) × (place_in names x ≡ register)

abbrev pub with_register : Option Name → Word → Code → Code
with_register x word c = record c { registers = assigned c.registers x word }

-- at the same instruction in another phase
abbrev pub code_in : Phase → Code → Code
code_in phase c = record c { phase = phase }

abbrev pub code_at : ℕ → ℕ → Code → Code
code_at block index c = record c { at = record c.at { block = block; index = index }; phase = Begins }

-- ---- the same of a call in the code

abbrev pub put_value : List (Option Word) → Option ℕ → Word → List (Option Word)
put_value values None word = values
put_value values (Some n) word = slice_set values n (Some word)

abbrev pub frame_assigned : FrameData → Option ℕ → Word → FrameData
frame_assigned f register word = record f { registers = put_value f.registers register word }

abbrev pub frame_kept : FrameData → ℕ → Word → FrameData
frame_kept f at word = record f { room = slice_set f.room at word }

abbrev pub frame_past : FrameData → FrameData
frame_past f = record f { index = f.index + 1; phase = Begins }

abbrev pub frame_in : FrameData → Phase → FrameData
frame_in f phase = record f { phase = phase }

abbrev pub frame_at : FrameData → ℕ → ℕ → FrameData
frame_at f block index = record f { block = block; index = index; phase = Begins }
