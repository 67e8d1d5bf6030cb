-- The walk over a wrapper: what each of its instructions gives, from which it is seen that the region function gets the thread's
-- number, a zero and the captured words, each once and in its place.
use Rattle.std.specs.Prelude.{ℕ, ◌+◌, min, List, [], ◌∷◌, Bool, true, false, not, nat_lt, nat_le, ◌==◌, ◌&&◌, Option, Some, None, option_map, option_and_then, if◌then◌else◌}
use Rattle.std.specs.Str.{bytes_eq}
use Rattle.ir_core.specs.declared.types.Ty.{Ty}
use Rattle.ir_core.specs.declared.types.Ty.TheVariants.{Int as IntTy, Ptr as PtrTy}
use Rattle.ir_core.specs.declared.instructions.Value.{Value}
use Rattle.ir_core.specs.declared.instructions.Value.TheVariants.{Int as IntValue, Local as LocalValue}
use Rattle.ir_core.specs.declared.instructions.Typed.{Typed}
use Rattle.ir_core.specs.declared.instructions.CastOp.{CastOp}
use Rattle.ir_core.specs.declared.instructions.CastOp.TheVariants.{ZExt, Trunc}
use Rattle.ir_core.specs.declared.instructions.Kind.{Kind}
use Rattle.ir_core.specs.declared.instructions.Kind.TheVariants.{Alloca, Load, Store, Gep, Cast, Call, Ret}
use Rattle.ir_core.specs.declared.instructions.Inst.{Inst}
use Rattle.ir_core.specs.declared.module.Module.{Module}
use Rattle.ir_core.specs.declared.module.Function.{Function}
use Rattle.ir_core.specs.declared.module.Param.{Param}
use Rattle.ir_core.specs.declared.refusal.Construct.TheVariants.{WrapperShape}
use Rattle.ir_core.specs.declared.refusal.Refusal.{Refusal}
use Rattle.ir_core.specs.FirstForm.{is_int_of, is_ptr, is_function}
use Rattle.ir_core.specs.Places.{Name}
use Rattle.ir_core.specs.Wrappers.{get_shared_variables, region_function, captures}
use Rattle.shapes.specs.Facts.{rule, insts_of}

-- ---- what is known of a register

-- how many bits of a captured word count, or that it is a pointer
pub data Form : Type 0 where
  Bits : ℕ → Form
  Pointer : Form

-- what a register or a slot can hold: the wrapper's own zero or thread number, a number, where the captured words stand or where one
-- of them does, and so much of a captured word
pub data Given : Type 0 where
  Zero : Given
  Thread : Given
  Number : ℕ → Given
  Area : Given
  Address : ℕ → Given
  Word : ℕ → Form → Given

-- a slot of the stack: its type, how many bits of it were ever stored, and what it holds
pub record Slot : Type 0 where
  pub form : Form
  pub stored : ℕ
  pub holds : Given

pub data Known : Type 0 where
  IsSlot : Slot → Known
  Is : Given → Known

-- what the registers are, whether the captured words were asked for, which of them were read, and in which forms they were passed on
pub record Walk : Type 0 where
  pub known : Name → Option Known
  pub asked : Bool
  pub read : List ℕ
  pub passed : Option (List Form)

abbrev pub with_known : Name → Known → Walk → Walk
with_known x k w = record w { known = λ y. if bytes_eq x y then Some k else w.known y }

abbrev pub with_result : Option Name → Known → Walk → Walk
with_result None k w = w
with_result (Some x) k w = with_known x k w

abbrev pub known_of : Walk → Value → Option Known
known_of w (LocalValue x) = w.known x
known_of w _ = None

abbrev pub given_known : Option Known → Option Given
given_known (Some (Is g)) = Some g
given_known _ = None

-- a number is known, too
abbrev pub given_of : Walk → Value → Option Given
given_of w (IntValue n) = Some (Number n)
given_of w value = given_known (known_of w value)

-- ---- forms

abbrev pub bits : Form → ℕ
bits (Bits n) = n
bits Pointer = 64

abbrev pub is_pointer : Form → Bool
is_pointer Pointer = true
is_pointer _ = false

abbrev pub same_form : Form → Form → Bool
same_form (Bits n) (Bits k) = n == k
same_form Pointer Pointer = true
same_form _ _ = false

abbrev pub form_of : Ty → Option Form
form_of (IntTy width) = Some (Bits width)
form_of PtrTy = Some Pointer
form_of _ = None

-- ---- stores and loads of slots

-- zero, the thread's number, a number and a word can be stored
abbrev pub can_be_stored : Given → Bool
can_be_stored Area = false
can_be_stored (Address k) = false
can_be_stored _ = true

-- what is stored is no wider than the slot, and no narrower than what was stored before
abbrev pub fits_slot : Slot → Form → Bool
fits_slot s f = nat_le (bits f) (bits s.form) && nat_le s.stored (bits f)

abbrev pub put_given : Slot → Given → Form → Option Slot
put_given s g f = if can_be_stored g && fits_slot s f then Some (record s { stored = bits f; holds = g }) else None

abbrev pub stored_in : Option Known → Option Given → Option Form → Option Slot
stored_in (Some (IsSlot s)) (Some g) (Some f) = put_given s g f
stored_in _ _ _ = None

-- the area is a pointer, and a word is one exactly where the slot is
abbrev pub is_loaded_as : Form → Given → Bool
is_loaded_as f Area = is_pointer f
is_loaded_as f (Word k g) = same_kind (is_pointer f) (is_pointer g)
  where
    same_kind : Bool → Bool → Bool
    same_kind true b = b
    same_kind false b = not b
is_loaded_as f _ = true

abbrev pub taken_from : Slot → Form → Option Known
taken_from s f = if same_form s.form f && is_loaded_as f s.holds then Some (Is s.holds) else None

-- ---- captured words

abbrev pub is_among : List ℕ → ℕ → Bool
is_among [] k = false
is_among (n ∷ ns) k = if n == k then true else is_among ns k

-- the word at a place below the number of captures, which wasn't read before
abbrev pub read_word : ℕ → Walk → Option Name → ℕ → Form → Option Walk
read_word captures w x k f = if nat_lt k captures && not (is_among w.read k) then Some (with_result x (Is (Word k f)) (record w { read = k ∷ w.read })) else None

abbrev pub loaded : ℕ → Walk → Option Name → Option Form → Option Known → Option Walk
loaded captures w x (Some f) (Some (IsSlot s)) = option_map (λ k. with_result x k w) (taken_from s f)
loaded captures w x (Some f) (Some (Is Area)) = read_word captures w x 0 f
loaded captures w x (Some f) (Some (Is (Address k))) = read_word captures w x k f
loaded captures w x f _ = None

-- ---- calls

abbrev pub pointer_slot : Option Known → Option Slot
pointer_slot (Some (IsSlot s)) = if is_pointer s.form then Some s else None
pointer_slot _ = None

abbrev pub with_slot : Value → Walk → Option Slot → Option Walk
with_slot (LocalValue x) w (Some s) = Some (with_known x (IsSlot s) w)
with_slot _ w s = None

abbrev pub area_slot : Slot → Slot
area_slot s = record s { stored = 64; holds = Area }

-- the captured words are asked for, once
abbrev pub asks : Walk → List Typed → Option Walk
asks w (at ∷ []) = if w.asked then None else with_slot at.value (record w { asked = true }) (option_map area_slot (pointer_slot (known_of w at.value)))
asks w _ = None

abbrev pub is_same_given : Given → Given → Bool
is_same_given Thread Thread = true
is_same_given (Number n) (Number k) = n == k
is_same_given _ _ = false

-- a slot of 32 bits that holds this
abbrev pub is_slot_with : Given → Option Known → Bool
is_slot_with g (Some (IsSlot s)) = same_form s.form (Bits 32) && is_same_given g s.holds
is_slot_with g _ = false

abbrev pub form_at : ℕ → Option Known → Option Form
form_at k (Some (Is (Word n f))) = if n == k then Some f else None
form_at k _ = None

-- the words from this one on, each in its place
abbrev pub forms_from : Walk → ℕ → List Typed → Option (List Form)
forms_from w k [] = Some []
forms_from w k (v ∷ vs) = option_and_then (λ f. option_map (λ fs. f ∷ fs) (forms_from w (k + 1) vs)) (form_at k (known_of w v.value))

-- the thread's number, a zero, and the captured words
abbrev pub passes : Walk → List Typed → Option (List Form)
passes w (thread ∷ bound ∷ words) = if is_slot_with Thread (known_of w thread.value) && is_slot_with (Number 0) (known_of w bound.value) then forms_from w 0 words else None
passes w _ = None

-- the region function is called, once
abbrev pub calls_region : Walk → Option (List Form) → List Typed → Option Walk
calls_region w None operands = option_map (λ fs. record w { passed = Some fs }) (passes w operands)
calls_region w (Some fs) operands = None

abbrev pub called : Option Function → Walk → Value → List Typed → Option Walk
called region w callee operands = if is_function get_shared_variables callee then asks w operands else by_region region
  where
    by_region : Option Function → Option Walk
    by_region None = None
    by_region (Some f) = if is_function f.name callee then calls_region w w.passed operands else None

-- ---- addresses and conversions

abbrev pub number_of : Value → Option ℕ
number_of (IntValue n) = Some n
number_of _ = None

-- the one index of a path, a number of 64 bits
abbrev pub number_at : List Typed → Option ℕ
number_at (v ∷ []) = if is_int_of 64 v.ty then number_of v.value else None
number_at _ = None

abbrev pub address_in : Option Given → Option ℕ → Option Known
address_in (Some Area) (Some k) = Some (Is (Address k))
address_in _ _ = None

abbrev pub goes_to : Walk → Ty → Typed → List Typed → Option Known
goes_to w ty base path = if is_ptr ty then address_in (given_of w base.value) (number_at path) else None

abbrev pub cut : Option Given → Option Form → Option Known
cut (Some (Word k (Bits n))) (Some (Bits width)) = Some (Is (Word k (Bits (min n width))))
cut _ _ = None

abbrev pub converted : CastOp → Option Given → Option Form → Option Known
converted Trunc g f = cut g f
converted ZExt g f = cut g f
converted _ g f = None

-- ---- the walk

-- the walk behind an instruction of a wrapper with so many captures and this region function; none where it fails
abbrev pub step_kind : ℕ → Option Function → Walk → Option Name → Kind → Option Walk
step_kind captures region w x (Alloca ty align) = option_map (λ f. with_result x (IsSlot (record { form = f; stored = 0; holds = Number 0 })) w) (form_of ty)
step_kind captures region w x (Store v at None align) = with_slot at.value w (stored_in (known_of w at.value) (given_of w v.value) (form_of v.ty))
step_kind captures region w x (Load ty at None align) = loaded captures w x (form_of ty) (known_of w at.value)
step_kind captures region w x (Gep inbounds ty base path) = option_map (λ k. with_result x k w) (goes_to w ty base path)
step_kind captures region w x (Cast op from to) = option_map (λ k. with_result x k w) (converted op (given_of w from.value) (form_of to))
step_kind captures region w x (Call tail_word ret callee operands) = called region w callee operands
step_kind captures region w x (Ret None) = Some w
step_kind captures region w x _ = None

abbrev pub step : Module → Function → Walk → Inst → Option Walk
step m f w i = step_kind (captures m f) (region_function m f) w i.result i.kind

abbrev pub nothing_known : Name → Option Known
nothing_known x = None

abbrev pub no_walk : Walk
no_walk = record { known = nothing_known; asked = false; read = []; passed = None }

abbrev pub first_walk : List Param → Walk
first_walk (a ∷ b ∷ []) = with_known b.name (Is Thread) (with_known a.name (Is Zero) no_walk)
first_walk _ = no_walk

abbrev pub or_refused : ℕ → Option Walk → (Walk → List Refusal) → List Refusal
or_refused line None go = rule WrapperShape false line
or_refused line (Some w) go = go w

-- the first instruction at which the walk fails
abbrev pub failing : (Walk → Inst → Option Walk) → List Inst → Walk → List Refusal
failing next [] w = []
failing next (i ∷ is) w = or_refused i.line (next w i) (failing next is)

abbrev pub of_walk : Module → Function → List Refusal
of_walk m f = failing (step m f) (insts_of f) (first_walk f.params)

-- ---- what it yields

abbrev pub walked : (Walk → Inst → Option Walk) → List Inst → Walk → Option Walk
walked next [] w = Some w
walked next (i ∷ is) w = option_and_then (walked next is) (next w i)

-- the form of each capture of a wrapper
abbrev pub capture_forms : Module → Function → Option (List Form)
capture_forms m f = option_and_then (λ w. w.passed) (walked (step m f) (insts_of f) (first_walk f.params))
