-- Operands of the innermost call as words, numbers and pointers, and the words that plain instructions give.
use Rattle.std.specs.Prelude.{ℕ, ◌≤◌, ◌^◌, length, List, Option, Some, None, Result, Ok, Err, if◌then◌else◌, ◌==◌}
use Rattle.ir_core.specs.declared.types.Ty.{Ty}
use Rattle.ir_core.specs.declared.instructions.Value.{Value}
use Rattle.ir_core.specs.declared.instructions.Typed.{Typed}
use Rattle.ir_core.specs.declared.instructions.BinOp.{BinOp}
use Rattle.ir_core.specs.declared.instructions.Flags.{Flags}
use Rattle.ir_core.specs.declared.instructions.Pred.{Pred}
use Rattle.ir_core.specs.declared.instructions.CastOp.{CastOp}
use Rattle.ir_core.specs.declared.module.Module.{Module}
use Rattle.ir_core.specs.FirstForm.{is_scalar}
use Rattle.ir_core.specs.Layout.{Offset}
use Rattle.mem_model.specs.declared.memory.Ptr.{Ptr}
use Rattle.mem_model.specs.declared.memory.Cell.{Cell}
use Rattle.mem_model.specs.declared.memory.Word.{Word}
use Rattle.mem_model.specs.declared.memory.Word.TheVariants.{Int, Ptr as Address}
use Rattle.mem_model.specs.declared.step.Trap.{Trap}
use Rattle.mem_model.specs.declared.step.Trap.TheVariants.{Unreachable}
use Rattle.mem_model.specs.Eval.{Eval, compared}
use Rattle.mem_model.specs.Thread.{Registers}
use Rattle.mem_model.specs.Values.{cell_of, width_of, operand, and_then, converted, path_of, moved}
use Rattle.thread_state.specs.declared.state.ThreadState.{ThreadState as ThreadData}
use Rattle.thread_state.specs.Seen.{thread_seen}
use Rattle.thread_state.specs.Moves.{first_registers}

-- globals and functions are so few that their places are numbers of 32 bits
pub record AreFew (m : Module) : Type 0 where
  pub globals : length m.globals ≤ 2 ^ 32
  pub functions : length m.functions ≤ 2 ^ 32

-- the registers of the innermost call
abbrev pub registers : Module → ThreadData → Registers
registers m s = first_registers (thread_seen m s).frames

abbrev pub as_number : Word → Result ℕ Trap
as_number (Int n) = Ok n
as_number (Address p) = Err Unreachable

abbrev pub as_pointer : Word → Result Ptr Trap
as_pointer (Int n) = Err Unreachable
as_pointer (Address p) = Ok p

abbrev pub number : Module → Registers → Ty → Value → Result ℕ Trap
number m r ty v = and_then (operand m r ty v) as_number

abbrev pub pointer : Module → Registers → Ty → Value → Result Ptr Trap
pointer m r ty v = and_then (operand m r ty v) as_pointer

abbrev pub cell : Ty → Result Cell Trap
cell ty = if is_scalar ty then Ok (cell_of ty) else Err Unreachable

abbrev pub or_unreachable : {A : Type 0} → Option A → Result A Trap
or_unreachable None = Err Unreachable
or_unreachable (Some x) = Ok x

-- ---- words

abbrev pub binary : Module → Registers → BinOp → Flags → Ty → Value → Value → Result Word Trap
binary m r op flags ty a b = and_then (number m r ty a) (λ i. and_then (number m r ty b) (λ j. and_then (Eval op flags (width_of ty) i j) (λ n. Ok (Int n))))

abbrev pub comparison : Module → Registers → Pred → Ty → Value → Value → Result Word Trap
comparison m r pred ty a b = and_then (operand m r ty a) (λ v. and_then (operand m r ty b) (λ w. and_then (or_unreachable (compared pred (width_of ty) v w)) (λ n. Ok (Int n))))

abbrev pub conversion : Module → Registers → CastOp → Typed → Ty → Result Word Trap
conversion m r op from to = and_then (operand m r from.ty from.value) (λ v. and_then (cell to) (λ c. converted op (width_of from.ty) (width_of to) v))

abbrev pub selection : Module → Registers → Typed → Typed → Typed → Result Word Trap
selection m r c a b =
    and_then (number m r c.ty c.value) (λ n. and_then (operand m r a.ty a.value) (λ then_word. and_then (operand m r b.ty b.value) (λ else_word. Ok (if n == 0 then else_word else then_word))))

-- the address that a getelementptr gives
abbrev pub element : Module → Registers → Ty → Typed → List Typed → Result Word Trap
element m r ty base path =
    and_then (pointer m r base.ty base.value) (λ p. and_then (path_of m r path) (λ indices. and_then (or_unreachable (Offset m.types ty indices)) (λ offset. Ok (Address (moved p offset)))))
