-- Regions: what a fork names, the words that it captures, and how a thread enters the region function (OpenMP 5.1, "parallel construct").
use Rattle.std.specs.Prelude.{ℕ, zero, suc, ℤ, pos, ◌+◌, ◌%◌, ◌^◌, ◌+ℤ◌, ◌==◌, List, [], ◌∷◌, Option, Some, None, option_and_then, Result, Ok, Err, slice_get, if◌then◌else◌}
use Rattle.ir_core.specs.declared.instructions.Value.{Value}
use Rattle.ir_core.specs.declared.instructions.Value.TheVariants.{Int as IntValue, Global as GlobalValue}
use Rattle.ir_core.specs.declared.instructions.Typed.{Typed}
use Rattle.ir_core.specs.declared.module.Module.{Module}
use Rattle.ir_core.specs.declared.module.Function.{Function}
use Rattle.ir_core.specs.declared.module.Param.{Param}
use Rattle.ir_core.specs.Places.{function_place}
use Rattle.shapes.specs.Walk.{Form, Bits, Pointer, capture_forms}
use Rattle.mem_model.specs.declared.memory.BlockName.TheVariants.{Stack}
use Rattle.mem_model.specs.declared.memory.Ptr.{Ptr}
use Rattle.mem_model.specs.declared.memory.Ptr.TheVariants.{Num as Number, At}
use Rattle.mem_model.specs.declared.memory.Byte.{Byte}
use Rattle.mem_model.specs.declared.memory.Word.{Word}
use Rattle.mem_model.specs.declared.memory.Word.TheVariants.{Int, Ptr as Address}
use Rattle.mem_model.specs.declared.memory.Cell.TheVariants.{Ptr as PtrCell}
use Rattle.mem_model.specs.declared.step.Trap.{Trap}
use Rattle.mem_model.specs.declared.step.Trap.TheVariants.{NotStack, StackLeak, NotNumber, Unreachable}
use Rattle.mem_model.specs.Words.{number_bytes}
use Rattle.mem_model.specs.Values.{and_then}
use Rattle.mem_model.specs.declared.phase.Phase.TheVariants.{Begins}
use Rattle.mem_model.specs.Thread.{Frame, ThreadState, Where, InStack, Elsewhere, where_is, bound, find_in, load_own, inside_region}

-- ---- what a fork names

-- the places of the region function and of its wrapper, and how many words are captured
pub record Fork : Type 0 where
  pub function : ℕ
  pub wrapper : ℕ
  pub count : ℕ

abbrev pub function_named : Module → Value → Option ℕ
function_named m (GlobalValue x) = function_place m x
function_named m _ = None

abbrev pub number_given : Value → Option ℕ
number_given (IntValue n) = Some n
number_given _ = None

abbrev pub fork_by : Option ℕ → Option ℕ → Option ℕ → Option Fork
fork_by (Some function) (Some wrapper) (Some count) = Some (record { function = function; wrapper = wrapper; count = count })
fork_by _ _ _ = None

-- a location, a thread number, if, num_threads, proc_bind, the region function, its wrapper, the words and their number
abbrev pub fork_of : Module → List Typed → Option Fork
fork_of m (place ∷ number ∷ test ∷ threads ∷ bind ∷ function ∷ wrapper ∷ words ∷ n ∷ []) =
    fork_by (function_named m function.value) (function_named m wrapper.value) (number_given n.value)
fork_of m _ = None

-- the word of the operand that says where the captured words stand
abbrev pub words_operand : List Word → Option Word
words_operand words = slice_get words 7

-- ---- captured words

-- no captured word is an address in a stack
abbrev pub shared_at : Ptr → Where → Result Ptr Trap
shared_at p (InStack spot offset) = Err StackLeak
shared_at p (Elsewhere q) = Ok p

abbrev pub shared_word : Word → Result Ptr Trap
shared_word (Int n) = Err Unreachable
shared_word (Address p) = shared_at p (where_is p)

-- so many words in a block, one after another from an offset on
abbrev pub words_in : Option (List Byte) → ℤ → ℕ → Result (List Ptr) Trap
words_in bytes offset zero = Ok []
words_in bytes offset (suc n) =
    and_then (load_own bytes offset PtrCell) (λ word. and_then (shared_word word) (λ p. and_then (words_in bytes (offset +ℤ pos 8) n) (λ ps. Ok (p ∷ ps))))

-- where there are words, they stand in the stack
abbrev pub words_at : List Frame → Where → ℕ → Result (List Ptr) Trap
words_at fs (InStack spot offset) n = words_in (find_in fs spot) offset n
words_at fs (Elsewhere p) n = if n == 0 then Ok [] else Err NotStack

-- where none is captured the operand isn't looked at
abbrev pub captured : List Frame → Option Word → ℕ → Result (List Ptr) Trap
captured fs word zero = Ok []
captured fs (Some (Address p)) (suc n) = words_at fs (where_is p) (suc n)
captured fs _ (suc n) = Err Unreachable

-- ---- the words in their forms

-- the lowest bits of a number, or a pointer; an address under a width is no number
abbrev pub formed_word : Form → Ptr → Result Word Trap
formed_word (Bits width) (Number n) = Ok (Int (n % 2 ^ width))
formed_word (Bits width) (At block offset) = Err NotNumber
formed_word Pointer p = Ok (Address p)

abbrev pub formed : List Form → List Ptr → Result (List Word) Trap
formed [] [] = Ok []
formed (f ∷ fs) (p ∷ ps) = and_then (formed_word f p) (λ word. and_then (formed fs ps) (λ words. Ok (word ∷ words)))
formed _ _ = Err Unreachable

abbrev pub formed_by : Option (List Form) → List Ptr → Result (List Word) Trap
formed_by None ps = Err Unreachable
formed_by (Some fs) ps = formed fs ps

-- the forms are those in which the wrapper passes the words on
abbrev pub forms_of : Module → ℕ → Option (List Form)
forms_of m wrapper = option_and_then (capture_forms m) (slice_get m.functions wrapper)

abbrev pub words_formed : Module → ℕ → List Ptr → Result (List Word) Trap
words_formed m wrapper ps = formed_by (forms_of m wrapper) ps

-- ---- entering a region

abbrev pub params_at : Option Function → List Param
params_at None = []
params_at (Some f) = f.params

-- the region function begins on a block that holds the thread's number, one that holds 0, and the captured words
abbrev pub region_frame : Module → ThreadState → ℕ → List Word → Frame
region_frame m t function words = record {
  code = record {
    at = record { function = function; block = 0; index = 0 };
    phase = Begins;
    registers = bound (params_at (slice_get m.functions function)) (Address (At (Stack t.own t.counter) (pos 0)) ∷ Address (At (Stack t.own (t.counter + 1)) (pos 0)) ∷ words);
    back = None;
  };
  blocks = ((t.own, t.counter + 1), number_bytes 4 0) ∷ ((t.own, t.counter), number_bytes 4 t.own) ∷ [];
}

-- the thread in the region, over these calls
abbrev pub in_region : Module → ThreadState → List Frame → ℕ → List Word → ThreadState
in_region m t below function words = record t { counter = t.counter + 2; frames = region_frame m t function words ∷ below; answers = inside_region t }
