-- The first state of a team, part by part.
use Rattle.std.proofs.Common.{◌≡◌, ℕ, zero, suc, ◌+◌, ◌<◌, ◌≤◌, List, [], ◌∷◌, ◌++◌, map, take, drop, length, reverse, replicate, get_or, Bool, true, false, Option, Some, None, refl, sym, ap, ◌∙◌, subst, arith, slice_get}
use Rattle.std.specs.FinMap as fin
use Rattle.std.specs.List.{flat_map}
use Rattle.std.proofs.lemmas.List.{length-map, map-append, drop_more}
use Rattle.ir_core.specs.declared.module.Module.{Module}
use Rattle.ir_core.specs.declared.module.Function.{Function}
use Rattle.ir_core.specs.declared.module.Global.{Global}
use Rattle.ir_core.specs.Places.{function_place, register_names_of, register_names}
use Rattle.mem_model.specs.declared.launch.Launch.{Launch}
use Rattle.mem_model.specs.declared.launch.Arg.{Arg}
use Rattle.mem_model.specs.declared.launch.Arg.TheVariants.{Buffer, Int as IntArg, Null}
use Rattle.mem_model.specs.declared.memory.BlockName.{BlockName}
use Rattle.mem_model.specs.declared.memory.BlockName.TheVariants.{Arg as ArgBlock, Global as GlobalBlock, Captures}
use Rattle.mem_model.specs.declared.memory.Byte.{Byte}
use Rattle.mem_model.specs.declared.memory.Word.{Word}
use Rattle.mem_model.specs.Memory.{Memory, no_blocks, with_block}
use Rattle.mem_model.specs.declared.phase.Phase.TheVariants.{Begins}
use Rattle.mem_model.specs.Thread.{ThreadState, bound}
use Rattle.mem_model.specs.Next.{with_frames}
use Rattle.mem_model.specs.Globals.{contents, with_globals}
use Rattle.mem_model.specs.Launching.{arg_word, arg_words, params_of, first_registers, Role, thread_at, first_thread, with_buffers, first_memory, first_common}
use Rattle.mem_model.proofs.BlockLaws.{header_apart}
use Rattle.mem_model.proofs.Runs.{some_injective}
use Rattle.team_model.specs.declared.Stand.TheVariants.{Runs}
use Rattle.team_model.specs.Team.{worker, main_thread, with_captures, threads_from, first_threads, runs_at_first, started}
use Rattle.thread_state.specs.declared.state.StackBlock.{StackBlock}
use Rattle.thread_state.specs.declared.state.ThreadState.{ThreadState as ThreadData}
use Rattle.thread_state.specs.Seen.{registers_seen, back_seen, frames_seen, answers_seen, thread_seen, AreFrames, AreBlocks, HasSpmdKernel, IsThread, IsSeen}
use Rattle.thread_state.specs.Stored.{entered}
use Rattle.interp_local.specs.Calls.{put_words}
use Rattle.interp_local.proofs.Entered.{put_length, function_registers, params_few}
use Rattle.interp.specs.declared.team.Team.{Team as TeamData}
use Rattle.interp.specs.Events.{shared_seen}
use Rattle.interp.specs.Teams.{team_seen, AreThreads}
use Rattle.interp.specs.Starts.{AreSeen, kernel_values, numbered_thread, first_shared}

-- ---- the capture area is new

apart : (m : Memory) (a : BlockName) (constant : Bool) (bytes : List Byte) → (Captures ≡ a → ⊥) → fin.get m.blocks Captures ≡ None → fin.get (with_block m a constant bytes).blocks Captures ≡ None
apart m a constant bytes other none = header_apart m.blocks a Captures _ other ∙ none

buffers_leave : (m : Memory) (i : ℕ) (args : List Arg) → fin.get m.blocks Captures ≡ None → fin.get (with_buffers i args m).blocks Captures ≡ None
buffers_leave m i [] none = none
buffers_leave m i (Buffer bytes ∷ args) none = buffers_leave (with_block m (ArgBlock i) false _) (i + 1) args (apart m (ArgBlock i) false _ (λ e. let f : ⊥ = cc in f) none)
buffers_leave m i (IntArg n ∷ args) none = buffers_leave m (i + 1) args none
buffers_leave m i (Null ∷ args) none = buffers_leave m (i + 1) args none

globals_leave : (s : Module) (m : Memory) (i : ℕ) (gs : List Global) → fin.get m.blocks Captures ≡ None → fin.get (with_globals s i gs m).blocks Captures ≡ None
globals_leave s m i [] none = none
globals_leave s m i (g ∷ gs) none = globals_leave s (with_block m (GlobalBlock i) g.constant (contents s g.ty g.init)) (i + 1) gs (apart m (GlobalBlock i) g.constant (contents s g.ty g.init) (λ e. let f : ⊥ = cc in f) none)

pub no_captures : (m : Module) (l : Launch) (memory : Memory) → memory ≡ first_memory m l → fin.get memory.blocks Captures ≡ None
no_captures m l memory is = subst (λ (x : Memory). fin.get x.blocks Captures ≡ None) (sym is) (globals_leave m (with_buffers 0 l.args no_blocks) 0 m.globals (buffers_leave no_blocks 0 l.args (fin.get-empty _ Captures)))

-- ---- the first mode in a list of modes

none_first : (xs ys : List ℕ) → slice_get xs 0 ≡ None → slice_get (xs ++ ys) 0 ≡ slice_get ys 0
none_first [] ys e = refl
none_first (x ∷ xs) ys e = let f : ⊥ = cc in absurd f

some_first : (xs ys : List ℕ) (a : ℕ) → slice_get xs 0 ≡ Some a → slice_get (xs ++ ys) 0 ≡ Some a
some_first [] ys a e = let f : ⊥ = cc in absurd f
some_first (x ∷ xs) ys a e = e

pub mode_later : {A : Type 0} (modes : A → List ℕ) (xs : List A) (i : ℕ) (x : A) (first : Option ℕ) → i < length xs → x ≡ get_or xs i x → slice_get (modes x) 0 ≡ None → slice_get (flat_map modes (drop i xs)) 0 ≡ first → slice_get (flat_map modes (drop (i + 1) xs)) 0 ≡ first
mode_later {A} modes xs i x first low is none all =
    let here : drop i xs ≡ x ∷ drop (i + 1) xs = drop_more xs i x low ∙ ap (λ y. y ∷ drop (i + 1) xs) (sym is) in
    sym (none_first (modes x) (flat_map modes (drop (i + 1) xs)) none) ∙ sym (ap (λ ys. slice_get (flat_map modes ys) 0) here) ∙ all

pub mode_here : {A : Type 0} (modes : A → List ℕ) (xs : List A) (i : ℕ) (x : A) (mode : ℕ) (first : Option ℕ) → i < length xs → x ≡ get_or xs i x → slice_get (modes x) 0 ≡ Some mode → slice_get (flat_map modes (drop i xs)) 0 ≡ first → Some mode ≡ first
mode_here {A} modes xs i x mode first low is some all =
    let here : drop i xs ≡ x ∷ drop (i + 1) xs = drop_more xs i x low ∙ ap (λ y. y ∷ drop (i + 1) xs) (sym is) in
    sym (some_first (modes x) (flat_map modes (drop (i + 1) xs)) mode some) ∙ sym (ap (λ ys. slice_get (flat_map modes ys) 0) here) ∙ all

-- ---- the words of arguments, one after another

word_after : (i n k : ℕ) (args : List Arg) (a : Arg) → k ≡ i + n → n < length args → a ≡ get_or args n a → arg_words i (take (n + 1) args) ≡ arg_words i (take n args) ++ arg_word k a ∷ []
word_after i n k [] a e low is = absurd (omega arith)
word_after i zero k (x ∷ xs) a e low is = let same : i ≡ k = omega arith in λ j. arg_word (same j) (sym is j) ∷ []
word_after i (suc n) k (x ∷ xs) a e low is =
    let next : suc n + 1 ≡ suc (n + 1) = omega arith in ap (λ j. arg_words i (take j (x ∷ xs))) next ∙ ap (λ ws. arg_word i x ∷ ws) (word_after (i + 1) n k xs a (omega arith) (omega arith) is)

words_count : (i n : ℕ) (args : List Arg) → n ≤ length args → length (arg_words i (take n args)) ≡ n
words_count i zero [] low = refl
words_count i zero (x ∷ xs) low = refl
words_count i (suc n) [] low = absurd (omega arith)
words_count i (suc n) (x ∷ xs) low = ap suc (words_count (i + 1) n xs (omega arith))

pub room_left : (args : List Arg) (params n : ℕ) (old values : List (Option Word)) → params ≤ length old → values ≡ put_words params (arg_words 0 (take n args)) old → params ≤ length values
room_left args params n old values room are = let size = ap (λ (vs : List (Option Word)). length vs) are ∙ put_length params (arg_words 0 (take n args)) old in omega arith

pub words_before : (args : List Arg) (n : ℕ) → n < length args → n ≡ length (arg_words 0 (take n args))
words_before args n low = sym (words_count 0 n args (omega arith))

pub words_more : (args : List Arg) (n params : ℕ) (a : Arg) (word : Word) (old new : List (Option Word)) → n < length args → a ≡ get_or args n a → word ≡ arg_word n a → new ≡ put_words params (arg_words 0 (take n args) ++ word ∷ []) old → new ≡ put_words params (arg_words 0 (take (n + 1) args)) old
words_more args n params a word old new low is word_is new_is =
    new_is
    ∙ ap (λ w. put_words params (arg_words 0 (take n args) ++ w ∷ []) old) word_is
    ∙ sym (ap (λ ws. put_words params ws old) (word_after 0 n n args a (omega arith) low is))

-- ---- the kernel's registers

registers_are : (o : Option Function) (words : List Word) → registers_seen (register_names_of o) (put_words (length (params_of o)) words (replicate (length (register_names_of o)) None)) ≡ bound (params_of o) words
registers_are None [] = refl
registers_are None (word ∷ words) = refl
registers_are (Some f) words = function_registers (Some f) f words refl

pub params_within : (m : Module) (k : ℕ) → length (params_of (slice_get m.functions k)) ≤ length (register_names m k)
params_within m k = by_function (slice_get m.functions k)
  where
    by_function : (o : Option Function) → length (params_of o) ≤ length (register_names_of o)
    by_function None = omega arith
    by_function (Some f) = params_few (Some f) f refl

-- ---- a thread before its first step

nowhere : {A : Type 0} (xs : List A) (i : ℕ) (x : A) → xs ≡ [] → slice_get xs i ≡ Some x → ⊥
nowhere [] i x none e = let f : ⊥ = cc in f
nowhere (y ∷ ys) i x none e = let f : ⊥ = cc in f

pub idle_thread : (m : Module) (s : ThreadData) → s.frames.items ≡ [] → s.stack.items ≡ [] → (s.enters ≡ true → HasSpmdKernel m) → IsThread m s
idle_thread m s frames stack spmd = (
  subst (λ fs. AreFrames m (length s.stack.items) (reverse fs)) (sym frames) (ap (λ (bs : List StackBlock). length bs) stack),
  subst (AreBlocks 0) (sym stack) tt,
  λ i b e. absurd (nowhere s.stack.items i b stack e),
  spmd,
)

module _ (m : Module) (l : Launch) (s : ThreadData) (counter : s.counter ≡ 0) (frames : s.frames.items ≡ []) where
  abbrev as_role : Role
  as_role = record { own = s.own; size = s.size; enters = s.enters }

  uncalled : (thread_seen m s).frames ≡ []
  uncalled = ap (λ fs. frames_seen m s.own s.stack.items (length s.stack.items) (reverse fs)) frames

  pub idle_seen : s.stack.items ≡ [] → (s.enters ≡ true → HasSpmdKernel m) → function_place m l.kernel ≡ None → IsSeen m s (first_thread m l as_role (answers_seen s.answers))
  idle_seen stack spmd unnamed = (
    idle_thread m s frames stack spmd,
    (λ i. record { own = s.own; size = s.size; enters = s.enters; counter = counter i; frames = uncalled i; answers = answers_seen s.answers })
        ∙ sym (ap (thread_at m l as_role (answers_seen s.answers)) unnamed),
  )

  pub begun_seen : (k : ℕ) (new : ThreadData) (values : List (Option Word)) → function_place m l.kernel ≡ Some k → values ≡ kernel_values m l k → IsSeen m new (with_frames (thread_seen m s) (entered m k values s ∷ (thread_seen m s).frames)) → IsSeen m new (first_thread m l as_role (answers_seen s.answers))
  begun_seen k new values place are seen =
      let regs : registers_seen (register_names m k) values ≡ first_registers m k l = ap (registers_seen (register_names m k)) are ∙ registers_are (slice_get m.functions k) (arg_words 0 l.args) in
      let back : back_seen m (reverse s.frames.items) ≡ None = ap (λ fs. back_seen m (reverse fs)) frames in (
        seen.0,
        seen.1
            ∙ (λ i. record { own = s.own; size = s.size; enters = s.enters; counter = counter i; frames = record { code = record { at = record { function = k; block = 0; index = 0 }; phase = Begins; registers = regs i; back = back i }; blocks = [] } ∷ uncalled i; answers = answers_seen s.answers })
            ∙ sym (ap (thread_at m l as_role (answers_seen s.answers)) place),
      )

-- ---- the threads, one after another

pub no_threads : (m : Module) (ss : List ThreadData) → ss ≡ [] → AreSeen m ss []
no_threads m ss none = (λ i s e. absurd (nowhere ss i s none e), ap (map (thread_seen m)) none)

thread_after : (thread : ℕ → ThreadState) (t n k : ℕ) → k ≡ t + n → threads_from thread t (n + 1) ≡ threads_from thread t n ++ thread k ∷ []
thread_after thread t zero k e = let same : t ≡ k = omega arith in λ i. thread (same i) ∷ []
thread_after thread t (suc n) k e = let next : suc n + 1 ≡ suc (n + 1) = omega arith in ap (λ j. threads_from thread t j) next ∙ ap (λ us. thread t ∷ us) (thread_after thread (t + 1) n k (omega arith))

pub thread_more : (m : Module) (ss new : List ThreadData) (s : ThreadData) (ts : List ThreadState) (t : ThreadState) → AreSeen m ss ts → IsSeen m s t → new ≡ ss ++ s ∷ [] → AreSeen m new (ts ++ t ∷ [])
thread_more m ss new s ts t are is new_is = subst (λ us. AreSeen m us (ts ++ t ∷ [])) (sym new_is) (and_one ss are.0, map-append (thread_seen m) ss (s ∷ []) ∙ (λ i. are.1 i ++ is.1 i ∷ []))
  where
    and_one : (us : List ThreadData) → AreThreads m us → AreThreads m (us ++ s ∷ [])
    and_one [] all zero u e = subst (IsThread m) (some_injective e) is.0
    and_one [] all (suc i) u e = let f : ⊥ = cc in absurd f
    and_one (v ∷ us) all zero u e = all zero u e
    and_one (v ∷ us) all (suc i) u e = and_one us (λ j w f. all (suc j) w f) i u e

pub numbered_more : (m : Module) (thread : ℕ → ThreadState) (n : ℕ) (ss new : List ThreadData) (s : ThreadData) → AreSeen m ss (threads_from thread 0 n) → IsSeen m s (thread n) → new ≡ ss ++ s ∷ [] → AreSeen m new (threads_from thread 0 (n + 1))
numbered_more m thread n ss new s are is new_is = subst (AreSeen m new) (sym (thread_after thread 0 n n (omega arith))) (thread_more m ss new s (threads_from thread 0 n) (thread n) are is new_is)

pub with_main : (m : Module) (l : Launch) (spmd : Bool) (ss new : List ThreadData) (s : ThreadData) → AreSeen m ss (threads_from (numbered_thread m l spmd) 0 l.threads) → spmd ≡ false → IsSeen m s (main_thread m l) → new ≡ ss ++ s ∷ [] → AreSeen m new (first_threads m l spmd)
with_main m l true ss new s are e is new_is = let f : ⊥ = cc in absurd f
with_main m l false ss new s are e is new_is = thread_more m ss new s (threads_from (worker m l) 0 l.threads) (main_thread m l) are is new_is

pub all_alike : (m : Module) (l : Launch) (spmd : Bool) (ss new : List ThreadData) → AreSeen m ss (threads_from (numbered_thread m l spmd) 0 l.threads) → spmd ≡ true → new ≡ ss → AreSeen m new (first_threads m l spmd)
all_alike m l true ss new are e new_is = subst (λ us. AreSeen m us (first_threads m l true)) (sym new_is) are
all_alike m l false ss new are e new_is = let f : ⊥ = cc in absurd f

-- ---- the team

all_run : (ts : List ThreadState) → replicate (length ts) Runs ≡ map runs_at_first ts
all_run [] = refl
all_run (t ∷ ts) = ap (λ stands. Runs ∷ stands) (all_run ts)

pub team_started : (m : Module) (l : Launch) (t : TeamData) (memory : Memory) (count : ℕ) (ts : List ThreadState) → shared_seen t.shared ≡ first_shared memory count → memory ≡ with_captures (first_memory m l) → count ≡ length t.threads.items → AreSeen m t.threads.items ts → team_seen m t ≡ started m l ts
team_started m l t memory count ts shared memory_is count_is are =
    let counted : count ≡ length ts = count_is ∙ sym (length-map t.threads.items (thread_seen m)) ∙ ap (λ (us : List ThreadState). length us) are.1 in
    let stands = ap (λ n. replicate n Runs) counted ∙ all_run ts in
    let seen : shared_seen t.shared ≡ (started m l ts).shared = shared ∙ (λ i. record { common = first_common (memory_is i); stands = stands i; slot = None; trapped = None }) in
    λ i. record { shared = seen i; threads = are.1 i }
