-- Published work: how a thread that asks for it is answered, and the loop in which the runtime itself asks (OpenMP 5.1, "parallel construct").
use Rattle.std.specs.Prelude.{ℕ, zero, suc, List, [], ◌∷◌, Option, Some, None, is_some, Result, Ok, Err, slice_get}
use Rattle.ir_core.specs.declared.instructions.Kind.{Kind}
use Rattle.ir_core.specs.declared.instructions.Kind.TheVariants.{Call}
use Rattle.ir_core.specs.declared.instructions.Inst.{Inst}
use Rattle.ir_core.specs.declared.module.Module.{Module}
use Rattle.ir_core.specs.Places.{inst_at}
use Rattle.mem_model.specs.declared.memory.Word.{Word}
use Rattle.mem_model.specs.declared.memory.Word.TheVariants.{Int, Ptr as Address}
use Rattle.mem_model.specs.declared.memory.Cell.TheVariants.{Ptr as PtrCell}
use Rattle.mem_model.specs.declared.step.Barrier.TheVariants.{Team}
use Rattle.mem_model.specs.declared.step.Trap.{Trap}
use Rattle.mem_model.specs.declared.step.Trap.TheVariants.{Unreachable}
use Rattle.mem_model.specs.Values.{and_then, operand_words}
use Rattle.mem_model.specs.declared.phase.LoopPoint.{LoopPoint}
use Rattle.mem_model.specs.declared.phase.Phase.{Phase}
use Rattle.mem_model.specs.declared.phase.LoopPoint.TheVariants.{Sleeps, Asks, Considers, Works, HasWorked, EndsRegion, HasEnded, Rests, HasRested}
use Rattle.mem_model.specs.declared.phase.Phase.TheVariants.{Begins, Loops}
use Rattle.mem_model.specs.Thread.{Name, Answers, Frame, ThreadState, where_is, bound, inside_region, outside_region}
use Rattle.mem_model.specs.Steps.{Arrives, AsksForWork, NextStep, Local, Pending, Trapped, code_on, with_frames, goes_on, in_phase, goes_in}
use Rattle.mem_model.specs.Regions.{params_at}
use Rattle.mem_model.specs.Entries.{put_own, truth_word, work_word}

-- ---- answers to a question for the published work

-- a thread with work is in a region
abbrev pub answers_with : Option ℕ → ThreadState → Answers
answers_with None t = t.answers
answers_with (Some wrapper) t = inside_region t

-- the work is stored in the stack, and told as a result
abbrev pub stores_work : ThreadState → Frame → List Frame → Option Name → Option ℕ → List Word → Result ThreadState Trap
stores_work t f rest x work (Address p ∷ []) =
    and_then (put_own (record f { code = code_on f.code x (truth_word (is_some work)) } ∷ rest) (where_is p) PtrCell (work_word work)) (λ fs. Ok (record (with_frames t fs) { answers = answers_with work t }))
stores_work t f rest x work _ = Err Unreachable

abbrev pub answers_kind : Module → ThreadState → Frame → List Frame → Option Name → Option ℕ → Kind → Result ThreadState Trap
answers_kind m t f rest x work (Call tail_word ret callee operands) = and_then (operand_words m f.code.registers operands) (stores_work t f rest x work)
answers_kind m t f rest x work _ = Err Unreachable

abbrev pub answers_call : Module → ThreadState → Frame → List Frame → Option ℕ → Option Inst → Result ThreadState Trap
answers_call m t f rest work None = Err Unreachable
answers_call m t f rest work (Some i) = answers_kind m t f rest i.result work i.kind

-- the runtime's own loop loads the work, compares it with null, and branches; where there is some it branches once more
abbrev pub steps_before : Option ℕ → ℕ
steps_before None = 2
steps_before (Some wrapper) = 4

abbrev pub answers_in : Module → ThreadState → Frame → List Frame → Option ℕ → Phase → Result ThreadState Trap
answers_in m t f rest work (Loops point) = Ok (record (goes_in t f rest (Loops (Considers (steps_before work) work))) { answers = answers_with work t })
answers_in m t f rest work _ = answers_call m t f rest work (inst_at m f.code.at)

abbrev pub answers_frames : Module → ThreadState → List Frame → Option ℕ → Result ThreadState Trap
answers_frames m t [] work = Err Unreachable
answers_frames m t (f ∷ rest) work = answers_in m t f rest work f.code.phase

-- the thread with this answer, or the trap
abbrev pub given_work : Module → ThreadState → Option ℕ → Result ThreadState Trap
given_work m t work = answers_frames m t t.frames work

-- ---- the runtime's own loop

-- the wrapper is called with 0 and the thread's number
abbrev pub wrapper_frame : Module → ThreadState → ℕ → Frame
wrapper_frame m t wrapper = record {
  code = record {
    at = record { function = wrapper; block = 0; index = 0 };
    phase = Begins;
    registers = bound (params_at (slice_get m.functions wrapper)) (Int 0 ∷ Int t.answers.init ∷ []);
    back = None;
  };
  blocks = [];
}

-- a step in the loop of an init call with this result; without work the loop ends, and with it the call
abbrev pub next_loop : Module → ThreadState → Frame → List Frame → Option Name → LoopPoint → NextStep
next_loop m t f rest x Sleeps = Pending (Arrives Team (Some (Loops Asks)))
next_loop m t f rest x Asks = Pending AsksForWork
next_loop m t f rest x (Considers (suc n) work) = Local (goes_in t f rest (Loops (Considers n work)))
next_loop m t f rest x (Considers zero None) = Local (goes_on t f rest x (Int t.answers.init))
next_loop m t f rest x (Considers zero (Some wrapper)) = Local (with_frames t (wrapper_frame m t wrapper ∷ in_phase (Loops Works) f ∷ rest))
next_loop m t f rest x Works = Trapped Unreachable
next_loop m t f rest x HasWorked = Local (goes_in t f rest (Loops EndsRegion))
next_loop m t f rest x EndsRegion = Local (record (goes_in t f rest (Loops HasEnded)) { answers = outside_region t })
next_loop m t f rest x HasEnded = Local (goes_in t f rest (Loops Rests))
next_loop m t f rest x Rests = Pending (Arrives Team (Some (Loops HasRested)))
next_loop m t f rest x HasRested = Local (goes_in t f rest (Loops Sleeps))
