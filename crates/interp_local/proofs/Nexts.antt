-- The next step of a thread is the action of the instruction at which its innermost call stands.
use Rattle.std.proofs.Common.{◌≡◌, ℕ, Bool, true, false, arith, List, [], ◌∷◌, length, reverse, Option, Some, None, Result, Ok, Err, refl, sym, ap, ◌∙◌, subst}
use Rattle.std.specs.Prelude.{◌==◌, ◌&&◌, ◌^◌, ◌-◌, not, nat_le, if◌then◌else◌}
use Rattle.std.proofs.lemmas.List.{length-reverse}
use Rattle.std.proofs.lemmas.Bool.Decides.{nat_tests}
use Rattle.ir_core.specs.declared.instructions.Kind.{Kind}
use Rattle.ir_core.specs.declared.instructions.Kind.TheVariants.{Bin, ICmp, Cast, Select, Phi, Alloca, Load as LoadInst, Store as StoreInst, Rmw, Gep, Fence, Call, Br, CondBr, Switch, Ret, Unreachable as UnreachableInst}
use Rattle.ir_core.specs.declared.instructions.Typed.{Typed}
use Rattle.ir_core.specs.declared.instructions.Inst.{Inst}
use Rattle.ir_core.specs.declared.module.Module.{Module}
use Rattle.ir_core.specs.declared.rtl.Rtl.TheVariants.{TargetInit, TargetDeinit, Parallel, GetSharedVariables, Barrier as RegionBarrier, GlobalThreadNum, ThreadNum, NumThreads, Level, ParallelLevel, InParallel, IsSpmdExecMode, ForStaticFini, Print, KernelEndParallel, SpmdBarrier, GenericBarrier, HardwareThreadId, AllocShared, FreeShared, KernelParallel}
use Rattle.mem_model.specs.declared.step.Barrier.TheVariants.{Explicit}
use Rattle.mem_model.specs.declared.memory.Word.TheVariants.{Int, Ptr as Address}
use Rattle.ir_core.specs.declared.answers.Or.{Or}
use Rattle.ir_core.specs.declared.answers.Or.TheVariants.{Refused, Memory as WantOfMemory}
use Rattle.ir_core.specs.Layout.{Size}
use Rattle.mem_model.specs.Memory.{block_limit}
use Rattle.ir_core.specs.Places.{Name, inst_at, labels, place_in}
use Rattle.mem_model.specs.declared.memory.Word.{Word}
use Rattle.mem_model.specs.declared.phase.Phase.TheVariants.{Begins}
use Rattle.mem_model.specs.declared.step.Trap.{Trap}
use Rattle.mem_model.specs.declared.step.Trap.TheVariants.{Unreachable, TooLarge}
use Rattle.mem_model.specs.declared.phase.Phase.{Phase}
use Rattle.mem_model.specs.declared.phase.Phase.TheVariants.{Begins}
use Rattle.mem_model.specs.Regions.{Fork, fork_of}
use Rattle.mem_model.specs.Entries.{runs_loop}
use Rattle.mem_model.specs.Thread.{Frame, Registers, Answers, ThreadState}
use Rattle.mem_model.specs.Values.{width_of, value_word, operand, and_then, operand_words}
use Rattle.mem_model.specs.Next.{NextStep, Trapped, Callee, CallsEntry, CallsFunction, CallsOther, callee_of, next_inst, next_in, next_frames, Next}
use Rattle.thread_state.specs.declared.state.Frame.{Frame as FrameData}
use Rattle.thread_state.specs.declared.state.ThreadState.{ThreadState as ThreadData}
use Rattle.thread_state.specs.Seen.{code_seen, answers_seen, blocks_seen, frames_seen, place_seen, thread_seen, IsThread, IsLong as IsLongCall, IsLongKind, IsLongInst, FirstIsLong, StandsAtLong}
use Rattle.thread_state.specs.Moves.{first_registers}
use Rattle.interp_local.specs.declared.actions.Action.{Action}
use Rattle.interp_local.specs.declared.actions.Action.TheVariants.{Loads, Stores, Updates, Allocates, Returns}
use Rattle.interp_local.specs.declared.steps.Own.{Own}
use Rattle.interp_local.specs.declared.steps.Own.TheVariants.{Done as HasEnded}
use Rattle.interp_local.specs.Operands.{registers, number, pointer, cell, or_unreachable}
use Rattle.interp_local.specs.declared.actions.Words.{Words}
use Rattle.interp_local.specs.declared.actions.Words.TheVariants.{Nothing, One, Two, More}
use Rattle.ir_core.specs.declared.rtl.Rtl.{Rtl}
use Rattle.interp_local.specs.Actions.{first_function, function_of, arguments, gives, words_given, known_action, fork_action, entry_action, call_action, jump, action_of, TakesRoom, IsLong, decided}
use Rattle.interp_local.specs.Steps.{IsOwn, first_inst, inst_of, first_phase, phase_of, IsDefined, TakesMemory, InstTakes, TakesIn, FramesTake, StandsAtTaking, IsTried, IsServed, AreServed}
use Rattle.interp_local.proofs.Begins.{FirstBegins, thread_begins, begins_nowhere}
use Rattle.interp_local.proofs.Decides.{action_is}

-- ---- where the innermost call stands

pub record At (m : Module) (s : ThreadData) : Type 0 where
  pub f : Frame
  pub rest : List Frame
  pub frames : (thread_seen m s).frames ≡ f ∷ rest
  pub next : Next m (thread_seen m s) ≡ next_inst m (thread_seen m s) f rest (inst_of m s)
  pub begins : f.code.phase ≡ Begins
  pub registers_are : f.code.registers ≡ registers m s
  pub function_is : f.code.at.function ≡ function_of s
  pub place_is : inst_at m f.code.at ≡ inst_of m s

at_by : (m : Module) (s : ThreadData) (fs : List FrameData) → reverse s.frames.items ≡ fs → FirstBegins fs → (fs ≡ [] → ⊥) → At m s
at_by m s [] e begins some = absurd (some refl)
at_by m s (g ∷ outer) e begins some =
    let t : ThreadState = thread_seen m s in
    let end : ℕ = length s.stack.items in
    let f : Frame = record { code = code_seen m outer g; blocks = blocks_seen s.own s.stack.items g.base end } in
    let rest : List Frame = frames_seen m s.own s.stack.items g.base outer in
    let frames : t.frames ≡ f ∷ rest = ap (frames_seen m s.own s.stack.items end) e in
    record {
      f = f;
      rest = rest;
      frames = frames;
      next = ap (next_frames m t) frames ∙ ap (next_in m t f rest (inst_at m f.code.at)) begins ∙ ap (next_inst m t f rest) (sym (ap (first_inst m) e));
      begins = begins;
      registers_are = sym (ap first_registers frames);
      function_is = sym (ap first_function e);
      place_is = sym (ap (first_inst m) e);
    }

none_back : {A : Type 0} (xs : List A) → reverse xs ≡ [] → length xs ≡ 0
none_back xs e = sym (length-reverse xs) ∙ ap length e

pub not_empty : (n k : ℕ) (b : Bool) → n ≡ k → b ≡ (n == 0) → b ≡ false → k ≡ 0 → ⊥
not_empty n k b same e f g = grind (arith, nat_tests)

-- at no instruction
pub at : (m : Module) (s : ThreadData) → IsThread m s → inst_of m s ≡ None → (length s.frames.items ≡ 0 → ⊥) → At m s
at m s is none some = at_by m s (reverse s.frames.items) refl (begins_nowhere m s is none) (λ e. some (none_back s.frames.items e))

-- at an instruction that it begins
pub at_inst : (m : Module) (s : ThreadData) (i : Inst) → phase_of s ≡ Begins → inst_of m s ≡ Some i → At m s
at_inst m s i begins is = at_by m s (reverse s.frames.items) refl (thread_begins s begins) (λ e. let none : first_inst m (reverse s.frames.items) ≡ None = ap (first_inst m) e in let f : ⊥ = cc in f)

pub ended : (m : Module) (s : ThreadData) → s.frames.items ≡ [] → IsOwn m s s (Next m (thread_seen m s)) (Ok HasEnded)
ended m s none = subst (λ nx. IsOwn m s s nx (Ok HasEnded)) (sym (ap (λ fs. next_frames m (thread_seen m s) (frames_seen m s.own s.stack.items (length s.stack.items) (reverse fs))) none)) refl

pub no_inst : (m : Module) (s : ThreadData) (a : At m s) → IsThread m s → inst_of m s ≡ None → IsOwn m s s (Next m (thread_seen m s)) (Err Unreachable)
no_inst m s a thread none = subst (λ nx. IsOwn m s s nx (Err Unreachable)) (sym (a.next ∙ ap (next_inst m (thread_seen m s) a.f a.rest) none)) (refl, (thread, refl))

pub next_decided : (m : Module) (s : ThreadData) (a : At m s) (i : Inst) (r : Result Action Trap) → inst_of m s ≡ Some i → IsServed m i.kind → r ≡ action_of m (function_of s) (registers m s) s.own (answers_seen s.answers) i.kind → decided m (thread_seen m s) a.f a.rest i.result (arguments i.kind) r ≡ Next m (thread_seen m s)
next_decided m s a i r is served e =
    let t : ThreadState = thread_seen m s in
    ap (decided m t a.f a.rest i.result (arguments i.kind)) e
    ∙ (λ j. decided m t a.f a.rest i.result (arguments i.kind) (action_of m (sym a.function_is j) (sym a.registers_are j) s.own (answers_seen s.answers) i.kind))
    ∙ action_is m t a.f a.rest i.result i.kind served
    ∙ sym (a.next ∙ ap (next_inst m t a.f a.rest) is)

pub decided_trap : (m : Module) (s : ThreadData) (nx : NextStep) (e : Trap) (result : Result Own Trap) → IsThread m s → Trapped e ≡ nx → result ≡ Err e → IsOwn m s s nx result
decided_trap m s nx e result thread is same = subst (λ r. IsOwn m s s nx r) (sym same) (subst (λ x. IsOwn m s s x (Err e)) is (refl, (thread, refl)))

-- the instruction at which the innermost call stands is served
served_by : (m : Module) (fs : List FrameData) (i : Inst) → AreServed m → first_inst m fs ≡ Some i → IsServed m i.kind
served_by m [] i uses e = let f : ⊥ = cc in absurd f
served_by m (g ∷ outer) i uses e = uses.kinds (place_seen g) i e

pub served : (m : Module) (s : ThreadData) (i : Inst) → AreServed m → inst_of m s ≡ Some i → IsServed m i.kind
served m s i uses e = served_by m (reverse s.frames.items) i uses e

-- ---- in the midst of an instruction

pub record Standing (m : Module) (s : ThreadData) : Type 0 where
  pub f : Frame
  pub rest : List Frame
  pub frames : (thread_seen m s).frames ≡ f ∷ rest
  pub next : Next m (thread_seen m s) ≡ next_in m (thread_seen m s) f rest (inst_of m s) (phase_of s)
  pub place_is : inst_at m f.code.at ≡ inst_of m s
  pub phase_is : f.code.phase ≡ phase_of s

standing_by : (m : Module) (s : ThreadData) (fs : List FrameData) (i : Inst) → reverse s.frames.items ≡ fs → first_inst m fs ≡ Some i → Standing m s
standing_by m s [] i e is = let f : ⊥ = cc in absurd f
standing_by m s (g ∷ outer) i e is =
    let t : ThreadState = thread_seen m s in
    let end : ℕ = length s.stack.items in
    let f : Frame = record { code = code_seen m outer g; blocks = blocks_seen s.own s.stack.items g.base end } in
    let rest : List Frame = frames_seen m s.own s.stack.items g.base outer in
    let frames : t.frames ≡ f ∷ rest = ap (frames_seen m s.own s.stack.items end) e in
    record {
      f = f;
      rest = rest;
      frames = frames;
      next = ap (next_frames m t) frames ∙ (λ j. next_in m t f rest (first_inst m (sym e j)) (first_phase (sym e j)));
      place_is = sym (ap (first_inst m) e);
      phase_is = sym (ap first_phase e);
    }

pub standing : (m : Module) (s : ThreadData) (i : Inst) → inst_of m s ≡ Some i → Standing m s
standing m s i is = standing_by m s (reverse s.frames.items) i refl is

-- the next step of a thread that stands at an instruction in a phase
pub next_standing : (m : Module) (s : ThreadData) (st : Standing m s) (i : Inst) (p : Phase) → inst_of m s ≡ Some i → phase_of s ≡ p → Next m (thread_seen m s) ≡ next_in m (thread_seen m s) st.f st.rest (Some i) p
next_standing m s st i p is phase = st.next ∙ (λ j. next_in m (thread_seen m s) st.f st.rest (is j) (phase j))

pub takes_standing : (m : Module) (s : ThreadData) (st : Standing m s) (i : Inst) (p : Phase) → inst_of m s ≡ Some i → phase_of s ≡ p → TakesIn m (Some i) p → StandsAtTaking m (thread_seen m s)
takes_standing m s st i p is phase takes_it =
    subst (FramesTake m) (sym st.frames) (subst (λ o. TakesIn m o st.f.code.phase) (sym is ∙ sym st.place_is) (subst (TakesIn m (Some i)) (sym phase ∙ sym st.phase_is) takes_it))

-- ---- what takes room is an instruction that takes memory, and what takes several steps one that does

abbrev Takes : Type 0 → Type 0 → Action → Type 0
Takes W L action = (TakesRoom action → W) × (IsLong action → L)

abbrev OkTakes : Type 0 → Type 0 → Result Action Trap → Type 0
OkTakes W L (Ok action) = Takes W L action
OkTakes W L (Err e) = Unit {0}

as_well : (L : Type 0) (r : Result Action Trap) → OkTakes ⊥ ⊥ r → OkTakes ⊥ L r
as_well L (Ok action) h = (h.0, λ l. absurd (h.1 l))
as_well L (Err e) h = tt

p_then_long : {A : Type 0} (W L : Type 0) (r : Result A Trap) (go : A → Result Action Trap) → ((a : A) → OkTakes W L (go a)) → OkTakes W L (and_then r go)
p_then_long W L (Err e) go h = tt
p_then_long W L (Ok a) go h = h a

p_then : {A : Type 0} (W : Type 0) (r : Result A Trap) (go : A → Result Action Trap) → ((a : A) → OkTakes W ⊥ (go a)) → OkTakes W ⊥ (and_then r go)
p_then W r go h = p_then_long W ⊥ r go h

p_gives : (W : Type 0) (r : Result Word Trap) → OkTakes W ⊥ (gives r)
p_gives W r = p_then W r _ (λ w. (λ t. absurd t, λ l. absurd l))

p_jump : (W : Type 0) (m : Module) (k : ℕ) (to : Name) → OkTakes W ⊥ (jump m k to)
p_jump W m k to = p_then W (or_unreachable (place_in (labels m k) to)) _ (λ b. (λ t. absurd t, λ l. absurd l))

p_share : (own : ℕ) (a : Answers) (words : Words) → OkTakes ⊥ ⊥ (known_action own a GetSharedVariables words)
p_share own a Nothing = tt
p_share own a (One (Address p)) = (λ t. absurd t, λ l. absurd l)
p_share own a (One (Int n)) = tt
p_share own a (Two v w) = tt
p_share own a More = tt

p_print : (own : ℕ) (a : Answers) (words : Words) → OkTakes ⊥ ⊥ (known_action own a Print words)
p_print own a Nothing = tt
p_print own a (One (Address p)) = tt
p_print own a (One (Int n)) = (λ t. absurd t, λ l. absurd l)
p_print own a (Two v w) = tt
p_print own a More = tt

p_make : (own : ℕ) (a : Answers) (words : Words) → OkTakes ⊥ ⊥ (known_action own a AllocShared words)
p_make own a Nothing = tt
p_make own a (One (Address p)) = tt
p_make own a (One (Int n)) = (λ t. absurd t, λ l. absurd l)
p_make own a (Two v w) = tt
p_make own a More = tt

p_release : (own : ℕ) (a : Answers) (words : Words) → OkTakes ⊥ ⊥ (known_action own a FreeShared words)
p_release own a Nothing = tt
p_release own a (One w) = tt
p_release own a (Two (Int n) w) = tt
p_release own a (Two (Address p) (Int n)) = (λ t. absurd t, λ l. absurd l)
p_release own a (Two (Address p) (Address q)) = tt
p_release own a More = tt

p_meets : (b : Bool) → OkTakes ⊥ ⊥ (Ok (if b then Action.Passes else Action.Arrives Explicit))
p_meets true = (λ t. absurd t, λ l. absurd l)
p_meets false = (λ t. absurd t, λ l. absurd l)

p_known : (own : ℕ) (a : Answers) (entry : Rtl) (words : Words) → OkTakes ⊥ ⊥ (known_action own a entry words)
p_known own a AllocShared words = p_make own a words
p_known own a FreeShared words = p_release own a words
p_known own a GetSharedVariables words = p_share own a words
p_known own a RegionBarrier words = p_meets (a.level == 0)
p_known own a GlobalThreadNum words = (λ t. absurd t, λ l. absurd l)
p_known own a ThreadNum words = (λ t. absurd t, λ l. absurd l)
p_known own a NumThreads words = (λ t. absurd t, λ l. absurd l)
p_known own a Level words = (λ t. absurd t, λ l. absurd l)
p_known own a ParallelLevel words = (λ t. absurd t, λ l. absurd l)
p_known own a InParallel words = (λ t. absurd t, λ l. absurd l)
p_known own a IsSpmdExecMode words = (λ t. absurd t, λ l. absurd l)
p_known own a ForStaticFini words = (λ t. absurd t, λ l. absurd l)
p_known own a Print words = p_print own a words
p_known own a KernelParallel words = (λ t. absurd t, λ l. absurd l)
p_known own a KernelEndParallel words = (λ t. absurd t, λ l. absurd l)
p_known own a SpmdBarrier words = (λ t. absurd t, λ l. absurd l)
p_known own a GenericBarrier words = (λ t. absurd t, λ l. absurd l)
p_known own a HardwareThreadId words = (λ t. absurd t, λ l. absurd l)
p_known own a _ words = tt

p_other : (m : Module) (r : Registers) (own : ℕ) (a : Answers) (operands : List Typed) (entry : Rtl) → OkTakes ⊥ ⊥ (and_then (operand_words m r operands) (λ words. known_action own a entry (words_given words)))
p_other m r own a operands entry = p_then ⊥ (operand_words m r operands) (λ words. known_action own a entry (words_given words)) (λ words. p_known own a entry (words_given words))

p_init : (a : Answers) (b c : Bool) → Takes ⊥ (c ≡ true) (if b && c then Action.StartsLoop else Action.Gives (Int a.init))
p_init a true true = (λ t. absurd t, λ l. refl)
p_init a true false = (λ t. absurd t, λ l. absurd l)
p_init a false c = (λ t. absurd t, λ l. absurd l)

p_fork : (o : Option Fork) (words : List Word) → OkTakes ⊥ (Unit {0}) (fork_action o words)
p_fork None words = tt
p_fork (Some fork) words = (λ t. absurd t, λ l. tt)

p_entry : (m : Module) (r : Registers) (own : ℕ) (a : Answers) (operands : List Typed) (entry : Rtl) → OkTakes ⊥ (IsLongCall operands (CallsEntry entry)) (entry_action m r own a operands entry)
p_entry m r own a operands TargetInit = p_init a (not (a.init == 2 ^ 32 - 1)) (runs_loop operands)
p_entry m r own a operands Parallel = p_then_long ⊥ (Unit {0}) (operand_words m r operands) (fork_action (fork_of m operands)) (p_fork (fork_of m operands))
p_entry m r own a operands TargetDeinit = (λ t. absurd t, λ l. absurd l)
p_entry m r own a operands entry = as_well (IsLongCall operands (CallsEntry entry)) _ (p_other m r own a operands entry)

p_call : (m : Module) (r : Registers) (own : ℕ) (a : Answers) (operands : List Typed) (c : Callee) → OkTakes (IsDefined c) (IsLongCall operands c) (call_action m r own a operands c)
p_call m r own a operands (CallsEntry entry) = p_entry m r own a operands entry
p_call m r own a operands (CallsFunction k params) = (λ t. tt, λ l. absurd l)
p_call m r own a operands CallsOther = tt

p_block : (size : ℕ) (b : Bool) → OkTakes (Unit {0}) ⊥ (if b then Ok (Allocates size) else Err TooLarge)
p_block size true = (λ t. tt, λ l. absurd l)
p_block size false = tt

p_kind : (m : Module) (k : ℕ) (r : Registers) (own : ℕ) (answers : Answers) (kind : Kind) → OkTakes (TakesMemory m kind) (IsLongKind m kind) (action_of m k r own answers kind)
p_kind m k r own answers (Bin op flags ty a b) = p_gives ⊥ _
p_kind m k r own answers (ICmp pred ty a b) = p_gives ⊥ _
p_kind m k r own answers (Cast op from to) = p_gives ⊥ _
p_kind m k r own answers (Select c a b) = p_gives ⊥ _
p_kind m k r own answers (Alloca ty align) = p_block (Size m.types ty) (nat_le (Size m.types ty) block_limit)
p_kind m k r own answers (LoadInst ty at order align) =
    p_then ⊥ (pointer m r at.ty at.value) (λ p. and_then (cell ty) (λ c. Ok (Loads p c))) (λ p. p_then ⊥ (cell ty) (λ c. Ok (Loads p c)) (λ c. (λ t. absurd t, λ l. absurd l)))
p_kind m k r own answers (StoreInst value at order align) =
    p_then ⊥ (operand m r value.ty value.value) (λ w. and_then (pointer m r at.ty at.value) (λ p. and_then (cell value.ty) (λ c. Ok (Stores p c w)))) (λ w.
    p_then ⊥ (pointer m r at.ty at.value) (λ p. and_then (cell value.ty) (λ c. Ok (Stores p c w))) (λ p. p_then ⊥ (cell value.ty) (λ c. Ok (Stores p c w)) (λ c. (λ t. absurd t, λ l. absurd l))))
p_kind m k r own answers (Rmw op at value order align) =
    p_then ⊥ (pointer m r at.ty at.value) (λ p. and_then (number m r value.ty value.value) (λ n. Ok (Updates p (record { width = width_of value.ty; op = op; number = n })))) (λ p.
    p_then ⊥ (number m r value.ty value.value) (λ n. Ok (Updates p (record { width = width_of value.ty; op = op; number = n }))) (λ n. (λ t. absurd t, λ l. absurd l)))
p_kind m k r own answers (Fence order) = (λ t. absurd t, λ l. absurd l)
p_kind m k r own answers (Call tail_word ret callee operands) = p_call m r own answers operands (callee_of m callee)
p_kind m k r own answers (Br to) = p_jump ⊥ m k to
p_kind m k r own answers (CondBr c then_to else_to) = p_then ⊥ _ _ (λ n. p_jump ⊥ m k _)
p_kind m k r own answers (Switch on other cases) = p_then ⊥ _ _ (λ n. p_jump ⊥ m k _)
p_kind m k r own answers (Ret None) = (λ t. absurd t, λ l. absurd l)
p_kind m k r own answers (Ret (Some v)) = p_then ⊥ (value_word m r v.value) (λ w. Ok (Returns (Some w))) (λ w. (λ t. absurd t, λ l. absurd l))
p_kind m k r own answers (Phi ty edges) = tt
p_kind m k r own answers UnreachableInst = tt
p_kind m k r own answers (Gep inbounds ty base path) = p_gives ⊥ _

takes : (m : Module) (k : ℕ) (r : Registers) (own : ℕ) (answers : Answers) (kind : Kind) (action : Action) → Ok action ≡ action_of m k r own answers kind → Takes (TakesMemory m kind) (IsLongKind m kind) action
takes m k r own answers kind action e = subst (OkTakes (TakesMemory m kind) (IsLongKind m kind)) (sym e) (p_kind m k r own answers kind)

pub stands_taking : (m : Module) (s : ThreadData) (a : At m s) (i : Inst) (action : Action) → inst_of m s ≡ Some i → Ok action ≡ action_of m (function_of s) (registers m s) s.own (answers_seen s.answers) i.kind → TakesRoom action → StandsAtTaking m (thread_seen m s)
stands_taking m s a i action is e t =
    let takes_it : InstTakes m (inst_at m a.f.code.at) = subst (InstTakes m) (sym (a.place_is ∙ is)) ((takes m (function_of s) (registers m s) s.own (answers_seen s.answers) i.kind action e).0 t) in
    subst (FramesTake m) (sym a.frames) (subst (TakesIn m (inst_at m a.f.code.at)) (sym a.begins) takes_it)

first_long : (m : Module) (fs : List FrameData) (i : Inst) → first_inst m fs ≡ Some i → IsLongKind m i.kind → FirstIsLong m fs
first_long m [] i is long = let f : ⊥ = cc in absurd f
first_long m (g ∷ outer) i is long = subst (IsLongInst m) (sym is) long

pub stands_long : (m : Module) (s : ThreadData) (i : Inst) (action : Action) → inst_of m s ≡ Some i → Ok action ≡ action_of m (function_of s) (registers m s) s.own (answers_seen s.answers) i.kind → IsLong action → StandsAtLong m s
stands_long m s i action is e l = first_long m (reverse s.frames.items) i is ((takes m (function_of s) (registers m s) s.own (answers_seen s.answers) i.kind action e).1 l)

-- ---- steps that may want memory

pub tried_as : (V W : Type 0) (m : Module) (old new : ThreadData) (nx mx : NextStep) (r : Result Own (Or Trap)) → (V → W) → nx ≡ mx → IsTried V m old new nx r → IsTried W m old new mx r
tried_as V W m old new nx mx (Ok own) go e h = subst (λ x. IsOwn m old new x (Ok own)) e h
tried_as V W m old new nx mx (Err (Refused trap)) go e h = subst (λ x. IsOwn m old new x (Err trap)) e h
tried_as V W m old new nx mx (Err WantOfMemory) go e h = (h.0, go h.1)

pub refused_trap : (W : Type 0) (m : Module) (s : ThreadData) (nx : NextStep) (e : Trap) → IsThread m s → Trapped e ≡ nx → IsTried W m s s nx (Err (Refused e))
refused_trap W m s nx e thread is = decided_trap m s nx e (Err e) thread is refl
