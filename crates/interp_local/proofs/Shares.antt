-- The address of the capture area is stored as any word is; and what a call of an entry point does that looks at its operands.
use Rattle.std.proofs.Common.{◌≡◌, ℕ, ℤ, List, ◌∷◌, Result, Ok, Err, refl, sym, ap, ◌∙◌}
use Rattle.std.specs.Prelude.{pos}
use Rattle.ir_core.specs.declared.instructions.Typed.{Typed}
use Rattle.ir_core.specs.declared.module.Module.{Module}
use Rattle.ir_core.specs.declared.rtl.Rtl.{Rtl}
use Rattle.ir_core.specs.declared.rtl.Rtl.TheVariants.{TargetInit, TargetDeinit, Parallel}
use Rattle.mem_model.specs.declared.memory.BlockName.TheVariants.{Captures}
use Rattle.mem_model.specs.declared.memory.Byte.{Byte}
use Rattle.mem_model.specs.declared.memory.Cell.TheVariants.{Ptr as PtrCell}
use Rattle.mem_model.specs.declared.memory.Ptr.{Ptr}
use Rattle.mem_model.specs.declared.memory.Ptr.TheVariants.{At}
use Rattle.mem_model.specs.declared.memory.Word.{Word}
use Rattle.mem_model.specs.declared.memory.Word.TheVariants.{Ptr as Address}
use Rattle.mem_model.specs.declared.step.Trap.{Trap}
use Rattle.mem_model.specs.Thread.{Registers, Answers, Spot, Frame, ThreadState, InStack, where_is, find_in, put_in, store_own}
use Rattle.mem_model.specs.Values.{and_then, operand_words}
use Rattle.mem_model.specs.Next.{Local, with_found, with_frames, code_past, stores}
use Rattle.mem_model.specs.Entries.{put_own, gets_shared}
use Rattle.interp_local.specs.declared.actions.Words.{Words}
use Rattle.interp_local.specs.Actions.{words_given, known_action, entry_action}

abbrev pub area : Word
area = Address (At Captures (pos 0))

stored_in : (t : ThreadState) (f : Frame) (rest : List Frame) (spot : Spot) (r : Result (List Byte) Trap) →
    with_found r (λ bytes. Local (with_frames t (put_in spot bytes (record f { code = code_past f.code } ∷ rest)))) ≡ with_found (and_then r (λ bytes. Ok (put_in spot bytes (record f { code = code_past f.code } ∷ rest)))) (λ fs. Local (with_frames t fs))
stored_in t f rest spot (Err e) = refl
stored_in t f rest spot (Ok bytes) = refl

pub share_is : (t : ThreadState) (f : Frame) (rest : List Frame) (at : Ptr) (spot : Spot) (offset : ℤ) → where_is at ≡ InStack spot offset → stores t f rest PtrCell area (InStack spot offset) ≡ gets_shared t f rest at
share_is t f rest at spot offset e =
    stored_in t f rest spot (store_own (find_in (f ∷ rest) spot) offset PtrCell area)
    ∙ sym (ap (λ w. with_found (put_own (record f { code = code_past f.code } ∷ rest) w PtrCell area) (λ fs. Local (with_frames t fs))) e)

-- all but init, deinit and forks look at their operands alone
pub other_entry : (m : Module) (r : Registers) (own : ℕ) (a : Answers) (operands : List Typed) (entry : Rtl) → (entry ≡ TargetInit → ⊥) → (entry ≡ TargetDeinit → ⊥) → (entry ≡ Parallel → ⊥) → entry_action m r own a operands entry ≡ and_then (operand_words m r operands) (λ words. known_action own a entry (words_given words))
other_entry m r own a operands TargetInit no_init no_deinit no_fork = absurd (no_init refl)
other_entry m r own a operands TargetDeinit no_init no_deinit no_fork = absurd (no_deinit refl)
other_entry m r own a operands Parallel no_init no_deinit no_fork = absurd (no_fork refl)
other_entry m r own a operands _ no_init no_deinit no_fork = refl

pub given_trap : (own : ℕ) (a : Answers) (entry : Rtl) (r : Result (List Word) Trap) (e : Trap) → Err e ≡ and_then r (λ words. Ok (words_given words)) → Err e ≡ and_then r (λ words. known_action own a entry (words_given words))
given_trap own a entry (Err x) e h = let same : e ≡ x = cc in ap Err same
given_trap own a entry (Ok words) e h = let f : ⊥ = cc in absurd f

pub given_words : (own : ℕ) (a : Answers) (entry : Rtl) (r : Result (List Word) Trap) (given : Words) → Ok given ≡ and_then r (λ words. Ok (words_given words)) → known_action own a entry given ≡ and_then r (λ words. known_action own a entry (words_given words))
given_words own a entry (Err x) given h = let f : ⊥ = cc in absurd f
given_words own a entry (Ok words) given h = let same : given ≡ words_given words = cc in ap (known_action own a entry) same
