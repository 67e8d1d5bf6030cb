-- A thread that asks for published work is answered by its only operand, which says where in its stack the work is stored.
use Rattle.std.proofs.Common.{◌≡◌, ℕ, ℤ, List, [], ◌∷◌, Option, Some, None, Result, Ok, Err, refl, sym, ap, ◌∙◌, subst}
use Rattle.std.specs.Prelude.{is_some}
use Rattle.ir_core.specs.Places.{Name}
use Rattle.ir_core.specs.declared.types.Ty.{Ty}
use Rattle.ir_core.specs.declared.instructions.Value.{Value}
use Rattle.ir_core.specs.declared.instructions.TailWord.{TailWord}
use Rattle.ir_core.specs.declared.instructions.Typed.{Typed}
use Rattle.ir_core.specs.declared.instructions.Kind.TheVariants.{Call}
use Rattle.ir_core.specs.declared.instructions.Inst.{Inst}
use Rattle.ir_core.specs.declared.module.Module.{Module}
use Rattle.mem_model.specs.declared.memory.Cell.TheVariants.{Ptr as PtrCell}
use Rattle.mem_model.specs.declared.memory.Ptr.{Ptr}
use Rattle.mem_model.specs.declared.memory.Word.{Word}
use Rattle.mem_model.specs.declared.memory.Word.TheVariants.{Int, Ptr as Address}
use Rattle.mem_model.specs.declared.step.Trap.{Trap}
use Rattle.mem_model.specs.declared.step.Trap.TheVariants.{NoBlock}
use Rattle.mem_model.specs.Entries.{put_own, truth_word, work_word}
use Rattle.mem_model.specs.Next.{code_on, with_frames}
use Rattle.mem_model.specs.Thread.{Spot, Frame, ThreadState, InStack, where_is, find_in, put_in, store_own}
use Rattle.mem_model.specs.Values.{and_then, operand_words}
use Rattle.mem_model.specs.Work.{answers_with, stores_work, answers_kind, answers_call, answers_in, answers_frames, given_work}
use Rattle.thread_state.specs.declared.state.ThreadState.{ThreadState as ThreadData}
use Rattle.thread_state.specs.Seen.{thread_seen}
use Rattle.interp_local.specs.declared.actions.Words.{Words}
use Rattle.interp_local.specs.Operands.{registers}
use Rattle.interp_local.specs.Actions.{words_given, only_pointer}
use Rattle.interp_local.specs.Steps.{IsAnswered, inst_of}
use Rattle.interp_local.proofs.Nexts.{At}

pub answered_trap : {U : Type 0} (m : Module) (s : ThreadData) (r : Result ThreadState Trap) (e : Trap) (result : Result U Trap) → Err e ≡ r → result ≡ Err e → IsAnswered m s s r result
answered_trap {U} m s r e result is same = subst (λ o. IsAnswered m s s r o) (sym same) (subst (λ o. IsAnswered {U = U} m s s o (Err e)) is (refl, refl))

-- ---- where the operand points to

module _ (t : ThreadState) (f : Frame) (rest : List Frame) (x : Option Name) (work : Option ℕ) where
  abbrev on : List Frame
  on = record f { code = code_on f.code x (truth_word (is_some work)) } ∷ rest

  abbrev behind : List Frame → Result ThreadState Trap
  behind fs = Ok (record (with_frames t fs) { answers = answers_with work t })

  pub no_block : (at : Ptr) (spot : Spot) (offset : ℤ) → InStack spot offset ≡ where_is at → find_in (f ∷ rest) spot ≡ None → Err NoBlock ≡ stores_work t f rest x work (Address at ∷ [])
  no_block at spot offset e none =
      sym (ap (λ o. and_then (and_then (store_own o offset PtrCell (work_word work)) (λ bytes. Ok (put_in spot bytes on))) behind) none) ∙ ap (λ w. and_then (put_own on w PtrCell (work_word work)) behind) e

module _ (t : ThreadState) (f : Frame) (rest : List Frame) (x : Option Name) (work : Option ℕ) where
  stores_by : (words : List Word) → and_then (only_pointer (words_given words)) (λ at. stores_work t f rest x work (Address at ∷ [])) ≡ stores_work t f rest x work words
  stores_by [] = refl
  stores_by (Address p ∷ []) = refl
  stores_by (Int n ∷ []) = refl
  stores_by (Address p ∷ b ∷ []) = refl
  stores_by (Int n ∷ b ∷ []) = refl
  stores_by (Address p ∷ b ∷ c ∷ more) = refl
  stores_by (Int n ∷ b ∷ c ∷ more) = refl

  no_operand : (r : Result (List Word) Trap) (e : Trap) → Err e ≡ and_then r (λ words. Ok (words_given words)) → Err e ≡ and_then r (stores_work t f rest x work)
  no_operand (Err y) e h = let same : e ≡ y = cc in ap Err same
  no_operand (Ok words) e h = let g : ⊥ = cc in absurd g

  with_operand : (r : Result (List Word) Trap) (given : Words) → Ok given ≡ and_then r (λ words. Ok (words_given words)) → and_then (only_pointer given) (λ at. stores_work t f rest x work (Address at ∷ [])) ≡ and_then r (stores_work t f rest x work)
  with_operand (Err y) given h = let g : ⊥ = cc in absurd g
  with_operand (Ok words) given h = let same : given ≡ words_given words = cc in ap (λ w. and_then (only_pointer w) (λ at. stores_work t f rest x work (Address at ∷ []))) same ∙ stores_by words

-- ---- the instruction at which the thread asks

module _ (m : Module) (s : ThreadData) (a : At m s) (i : Inst) (work : Option ℕ) (stands : inst_of m s ≡ Some i) (tail_word : TailWord) (ret : Ty) (callee : Value) (operands : List Typed) (kind : i.kind ≡ Call tail_word ret callee operands) where
  abbrev pub answer : List Word → Result ThreadState Trap
  answer = stores_work (thread_seen m s) a.f a.rest i.result work

  abbrev pub words_read : Result Words Trap
  words_read = and_then (operand_words m (registers m s) operands) (λ words. Ok (words_given words))

  asked : and_then (operand_words m (registers m s) operands) answer ≡ given_work m (thread_seen m s) work
  asked =
      let t = thread_seen m s in
      sym
      (ap (λ fs. answers_frames m t fs work) a.frames
      ∙ ap (answers_in m t a.f a.rest work) a.begins
      ∙ ap (answers_call m t a.f a.rest work) (a.place_is ∙ stands)
      ∙ ap (answers_kind m t a.f a.rest i.result work) kind
      ∙ ap (λ r. and_then (operand_words m r operands) answer) a.registers_are)

  pub unread : (e : Trap) → Err e ≡ words_read → Err e ≡ given_work m (thread_seen m s) work
  unread e h = no_operand (thread_seen m s) a.f a.rest i.result work (operand_words m (registers m s) operands) e h ∙ asked

  pub read : (given : Words) → Ok given ≡ words_read → and_then (only_pointer given) (λ at. answer (Address at ∷ [])) ≡ given_work m (thread_seen m s) work
  read given h = with_operand (thread_seen m s) a.f a.rest i.result work (operand_words m (registers m s) operands) given h ∙ asked

  pub no_pointer : (given : Words) (e : Trap) → Ok given ≡ words_read → Err e ≡ only_pointer given → Err e ≡ given_work m (thread_seen m s) work
  no_pointer given e h p = ap (λ r. and_then r (λ at. answer (Address at ∷ []))) p ∙ read given h

  pub points : (given : Words) (at : Ptr) → Ok given ≡ words_read → Ok at ≡ only_pointer given → answer (Address at ∷ []) ≡ given_work m (thread_seen m s) work
  points given at h p = ap (λ r. and_then r (λ at. answer (Address at ∷ []))) p ∙ read given h
