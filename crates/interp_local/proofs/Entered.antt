-- A call of a function with blocks binds the words of its operands to the registers of its parameters.
use Rattle.std.proofs.Common.{◌≡◌, ℕ, zero, suc, ◌+◌, ◌<◌, ◌≤◌, List, [], ◌∷◌, ◌++◌, map, drop, length, reverse, replicate, Bool, true, false, cond, Option, Some, None, Result, Ok, Err, refl, sym, ap, ◌∙◌, subst, arith, slice_get, slice_set, if◌then◌else◌, append_assoc, length-append}
use Rattle.std.specs.Prelude.{option_map, IsSome, IfOk}
use Rattle.std.specs.List.{flat_map}
use Rattle.std.specs.Str.{bytes_eq}
use Rattle.std.proofs.lemmas.List.{length-map, length-replicate}
use Rattle.mem_model.proofs.Runs.{some_injective}
use Rattle.std.proofs.lemmas.Slice.Eq.{bytes_eq-Decides}
use Rattle.ir_core.specs.declared.instructions.Inst.{Inst}
use Rattle.ir_core.specs.declared.instructions.Typed.{Typed}
use Rattle.ir_core.specs.declared.module.Module.{Module}
use Rattle.ir_core.specs.declared.module.Param.{Param}
use Rattle.ir_core.specs.declared.module.Function.{Function}
use Rattle.ir_core.specs.Places.{Name, place_from, place_in, param_name, block_results, register_names_of, register_names}
use Rattle.mem_model.specs.declared.memory.Word.{Word}
use Rattle.mem_model.specs.declared.phase.Phase.TheVariants.{Begins}
use Rattle.mem_model.specs.declared.step.Trap.{Trap}
use Rattle.mem_model.specs.Thread.{Frame, ThreadState, bound}
use Rattle.mem_model.specs.Values.{value_word, and_then, operand_words}
use Rattle.mem_model.specs.Next.{Local, with_found, with_frames, CallsFunction, defined_at, called, result_of, next_call}
use Rattle.thread_state.specs.declared.state.Frame.{Frame as FrameData}
use Rattle.thread_state.specs.declared.state.ThreadState.{ThreadState as ThreadData}
use Rattle.thread_state.specs.Seen.{value_at, registers_seen, back_seen, thread_seen, StandsAtCall, IsThread, IsSeen}
use Rattle.thread_state.specs.Moves.{first_registers}
use Rattle.thread_state.specs.Stored.{entered, HasEntered}
use Rattle.interp_local.specs.declared.steps.Own.TheVariants.{Went}
use Rattle.interp_local.specs.Operands.{registers}
use Rattle.interp_local.specs.Calls.{put_words, AreBound}
use Rattle.interp_local.specs.Steps.{IsOwn, first_inst, inst_of}
use Rattle.interp_local.proofs.Branches.{drop_get}
use Rattle.interp_local.proofs.Returned.{back_of}
use Rattle.interp_local.proofs.Begins.{FirstBegins}

-- ---- words put in places, one after another

pub put_more : (n : ℕ) (words : List Word) (word : Word) (values : List (Option Word)) → length words < n → n ≤ length values → slice_set (put_words n words values) (length words) (Some word) ≡ put_words n (words ++ word ∷ []) values
put_more zero words word values low room = absurd (omega arith)
put_more (suc n) [] word [] low room = absurd (omega arith)
put_more (suc n) [] word (v ∷ vs) low room = ap (λ us. Some word ∷ us) (sym (put_none n vs))
  where
    put_none : (n : ℕ) (vs : List (Option Word)) → put_words n [] vs ≡ vs
    put_none n vs = refl
put_more (suc n) (w ∷ ws) word [] low room = absurd (omega arith)
put_more (suc n) (w ∷ ws) word (v ∷ vs) low room = ap (λ us. Some w ∷ us) (put_more n ws word vs (omega arith) (omega arith))

pub put_past : (n : ℕ) (words : List Word) (word : Word) (values : List (Option Word)) → n ≤ length words → put_words n (words ++ word ∷ []) values ≡ put_words n words values
put_past zero [] word values past = refl
put_past zero (w ∷ ws) word values past = refl
put_past (suc n) [] word values past = absurd (omega arith)
put_past (suc n) (w ∷ ws) word [] past = refl
put_past (suc n) (w ∷ ws) word (v ∷ vs) past = ap (λ us. Some w ∷ us) (put_past n ws word vs (omega arith))

pub put_length : (n : ℕ) (words : List Word) (values : List (Option Word)) → length (put_words n words values) ≡ length values
put_length n [] values = refl
put_length zero (w ∷ ws) values = refl
put_length (suc n) (w ∷ ws) [] = refl
put_length (suc n) (w ∷ ws) (v ∷ vs) = ap suc (put_length n ws vs)

-- ---- the operands, one after another

abbrev Before : List Word → Result (List Word) Trap → Result (List Word) Trap
Before front r = and_then r (λ words. Ok (front ++ words))

-- what a loop over operands knows that has come to a place of them: the words of those before it
pub record Reads (m : Module) (s : ThreadData) (args : List Typed) (n : ℕ) : Type 0 where
  pub front : List Word
  pub count : length front ≡ n
  pub words : Before front (operand_words m (registers m s) (drop n args)) ≡ operand_words m (registers m s) args

pub reads_first : (m : Module) (s : ThreadData) (args : List Typed) → Reads m s args 0
reads_first m s args = record { front = []; count = refl; words = same (operand_words m (registers m s) args) }
  where
    same : (r : Result (List Word) Trap) → Before [] r ≡ r
    same (Ok words) = refl
    same (Err e) = refl

module _ (m : Module) (s : ThreadData) (args : List Typed) (n : ℕ) (b : Reads m s args n) where
  pub reads_all : n ≡ length args → operand_words m (registers m s) args ≡ Ok b.front
  reads_all end =
      let none : drop n args ≡ [] = ap (λ k. drop k args) end ∙ drop_all args in
      sym b.words ∙ ap (λ vs. Before b.front (operand_words m (registers m s) vs)) none ∙ ap Ok (nothing b.front)
    where
      drop_all : (xs : List Typed) → drop (length xs) xs ≡ []
      drop_all [] = refl
      drop_all (x ∷ xs) = drop_all xs

      nothing : (xs : List Word) → xs ++ [] ≡ xs
      nothing [] = refl
      nothing (x ∷ xs) = ap (λ ys. x ∷ ys) (nothing xs)

  module _ (v : Typed) (there : slice_get args n ≡ Some v) where
    here : Before b.front (operand_words m (registers m s) (v ∷ drop (n + 1) args)) ≡ operand_words m (registers m s) args
    here = ap (λ vs. Before b.front (operand_words m (registers m s) vs)) (sym (drop_get args n v there)) ∙ b.words

    pub reads_trap : (e : Trap) → value_word m (registers m s) v.value ≡ Err e → operand_words m (registers m s) args ≡ Err e
    reads_trap e trap = sym here ∙ ap (λ w. Before b.front (and_then w (λ word. and_then (operand_words m (registers m s) (drop (n + 1) args)) (λ words. Ok (word ∷ words))))) trap

    one : (r : Result (List Word) Trap) (word : Word) → Before (b.front ++ word ∷ []) r ≡ Before b.front (and_then r (λ words. Ok (word ∷ words)))
    one (Ok words) word = ap Ok (append_assoc b.front (word ∷ []) words)
    one (Err e) word = refl

    words_more : (word : Word) → value_word m (registers m s) v.value ≡ Ok word → Before (b.front ++ word ∷ []) (operand_words m (registers m s) (drop (n + 1) args)) ≡ operand_words m (registers m s) args
    words_more word e =
        one (operand_words m (registers m s) (drop (n + 1) args)) word
        ∙ sym (ap (λ w. Before b.front (and_then w (λ word. and_then (operand_words m (registers m s) (drop (n + 1) args)) (λ words. Ok (word ∷ words))))) e)
        ∙ here

    count_more : (word : Word) → length (b.front ++ word ∷ []) ≡ n + 1
    count_more word = let a = length-append b.front (word ∷ []) in let same = b.count in omega arith

    pub reads_more : (word : Word) → value_word m (registers m s) v.value ≡ Ok word → Reads m s args (n + 1)
    reads_more word e = record { front = b.front ++ word ∷ []; count = count_more word; words = words_more word e }

-- with the words that are known then
pub front_first : (m : Module) (s : ThreadData) (args : List Typed) → (read : Reads m s args 0) × ([] ≡ read.front)
unfolding reads_first
front_first m s args = (reads_first m s args, refl)

pub front_more : (m : Module) (s : ThreadData) (args : List Typed) (n : ℕ) (b : Reads m s args n) (v : Typed) → slice_get args n ≡ Some v → (word : Word) → value_word m (registers m s) v.value ≡ Ok word → (read : Reads m s args (n + 1)) × (b.front ++ word ∷ [] ≡ read.front)
unfolding reads_more
front_more m s args n b v there word e = (reads_more m s args n b v there word e, refl)

-- ---- the word at a place among them

pub found_last : {A : Type 0} (xs : List A) (x : A) (k : ℕ) → length xs ≡ k → slice_get (xs ++ x ∷ []) k ≡ Some x
found_last [] x zero e = refl
found_last [] x (suc k) e = absurd (omega arith)
found_last (y ∷ ys) x zero e = absurd (omega arith)
found_last (y ∷ ys) x (suc k) e = found_last ys x k (omega arith)

pub found_before : {A : Type 0} (xs : List A) (x : A) (k : ℕ) → (length xs ≡ k → ⊥) → slice_get (xs ++ x ∷ []) k ≡ slice_get xs k
found_before [] x zero other = absurd (other refl)
found_before [] x (suc k) other = refl
found_before (y ∷ ys) x zero other = refl
found_before (y ∷ ys) x (suc k) other = found_before ys x k (λ e. other (ap suc e))

-- what a loop that binds words knows
pub record Binds (m : Module) (s : ThreadData) (args : List Typed) (params : ℕ) (old values : List (Option Word)) (n at : ℕ) : Type 0 where
  pub read : Reads m s args n
  pub place : at ≡ n
  pub values_are : values ≡ put_words params read.front old

pub binds_first : (m : Module) (s : ThreadData) (args : List Typed) (params : ℕ) (old : List (Option Word)) → Binds m s args params old old 0 0
unfolding reads_first
binds_first m s args params old = record { read = reads_first m s args; place = refl; values_are = refl }

module _ (m : Module) (s : ThreadData) (args : List Typed) (params : ℕ) (old values : List (Option Word)) (n at : ℕ) (b : Binds m s args params old values n at) where
  pub bound_all : n ≡ length args → AreBound {U = Unit {0}} (operand_words m (registers m s) args) params old values (Ok tt)
  bound_all end = subst (λ r. AreBound {U = Unit {0}} r params old values (Ok tt)) (sym (reads_all m s args n b.read end)) b.values_are

  module _ (v : Typed) (there : slice_get args n ≡ Some v) where
    pub bound_trap : (e : Trap) (result : Result (Unit {0}) Trap) → value_word m (registers m s) v.value ≡ Err e → result ≡ Err e → AreBound (operand_words m (registers m s) args) params old values result
    bound_trap e result trap result_is =
        subst (λ x. AreBound {U = Unit {0}} (operand_words m (registers m s) args) params old values x) (sym result_is) (subst (λ r. AreBound {U = Unit {0}} r params old values (Err e)) (sym (reads_trap m s args n b.read v there e trap)) refl)

    pub binds_more : (word : Word) (new : List (Option Word)) → value_word m (registers m s) v.value ≡ Ok word → new ≡ put_words params (b.read.front ++ word ∷ []) old → Binds m s args params old new (n + 1) (at + 1)
    unfolding reads_more
    binds_more word new e is = record {
      read = reads_more m s args n b.read v there word e;
      place = let same = b.place in omega arith;
      values_are = is;
    }

-- ---- the registers that they are

place_suc : (n : ℕ) (names : List Name) (y : Name) → place_from (suc n) names y ≡ option_map suc (place_from n names y)
place_suc n [] y = refl
place_suc n (x ∷ xs) y = step (bytes_eq x y) (place_suc (n + 1) xs y)
  where
    step : (b : Bool) → place_from (suc (n + 1)) xs y ≡ option_map suc (place_from (n + 1) xs y) → (if b then Some (suc n) else place_from (suc n + 1) xs y) ≡ option_map suc (if b then Some n else place_from (n + 1) xs y)
    step true e = refl
    step false e = let next : suc n + 1 ≡ suc (n + 1) = omega arith in ap (λ k. place_from k xs y) next ∙ e

value_suc : (v : Option Word) (vs : List (Option Word)) (o : Option ℕ) → value_at (v ∷ vs) (option_map suc o) ≡ value_at vs o
value_suc v vs None = refl
value_suc v vs (Some n) = refl

none_at : (n : ℕ) (o : Option ℕ) → value_at (replicate n None) o ≡ None
none_at n None = refl
none_at zero (Some k) = refl
none_at (suc n) (Some zero) = refl
none_at (suc n) (Some (suc k)) = none_at n (Some k)

flipped : (x y : Name) (b : Bool) → bytes_eq x y ≡ b → bytes_eq y x ≡ b
flipped x y true e = (bytes_eq-Decides y x).1 (sym ((bytes_eq-Decides x y).0 e))
flipped x y false e = not_eq (bytes_eq y x) refl
  where
    not_eq : (c : Bool) → bytes_eq y x ≡ c → bytes_eq y x ≡ false
    not_eq true f = let yes_ : bytes_eq x y ≡ true = (bytes_eq-Decides x y).1 (sym ((bytes_eq-Decides y x).0 f)) in let g : ⊥ = cc in absurd g
    not_eq false f = f

first_value : (x y : Name) (names : List Name) (w : Word) (vs : List (Option Word)) (rest : Option Word) (b : Bool) → bytes_eq x y ≡ b → value_at vs (place_from 0 names y) ≡ rest → value_at (Some w ∷ vs) (if b then Some 0 else place_from (0 + 1) names y) ≡ cond b (Some w) rest
first_value x y names w vs rest true e h = refl
first_value x y names w vs rest false e h = ap (value_at (Some w ∷ vs)) (place_suc 0 names y) ∙ value_suc (Some w) vs (place_from 0 names y) ∙ h

values_are : (ps : List Param) (words : List Word) (names : List Name) (y : Name) → value_at (put_words (length ps) words (replicate (length (map param_name ps ++ names)) None)) (place_in (map param_name ps ++ names) y) ≡ bound ps words y
values_are [] [] names y = none_at (length names) (place_in names y)
values_are [] (w ∷ ws) names y = none_at (length names) (place_in names y)
values_are (p ∷ ps) [] names y = none_at (suc (length (map param_name ps ++ names))) (place_in (p.name ∷ map param_name ps ++ names) y)
values_are (p ∷ ps) (w ∷ ws) names y =
    first_value p.name y (map param_name ps ++ names) w (put_words (length ps) ws (replicate (length (map param_name ps ++ names)) None)) (bound ps ws y) (bytes_eq p.name y) refl (values_are ps ws names y)
    ∙ ap (λ b. cond b (Some w) (bound ps ws y)) (sym (flipped p.name y (bytes_eq p.name y) refl))

pub function_registers : (o : Option Function) (f : Function) (words : List Word) → o ≡ Some f → registers_seen (register_names_of o) (put_words (length f.params) words (replicate (length (register_names_of o)) None)) ≡ bound f.params words
function_registers None f words e = let g : ⊥ = cc in absurd g
function_registers (Some g) f words e = subst (λ (h : Function). registers_seen (register_names_of (Some g)) (put_words (length h.params) words (replicate (length (register_names_of (Some g))) None)) ≡ bound h.params words) (some_is g f e) (λ i. λ y. values_are g.params words (flat_map block_results g.blocks) y i)
  where
    some_is : (g f : Function) → Some g ≡ Some f → g ≡ f
    some_is g f e = some_injective e

pub params_few : (o : Option Function) (f : Function) → o ≡ Some f → length f.params ≤ length (register_names_of o)
params_few None f e = let g : ⊥ = cc in absurd g
params_few (Some g) f e =
    let same = ap (λ (h : Function). length h.params) (some_injective e) in
    let a = length-append (map param_name g.params) (flat_map block_results g.blocks) in
    let b = length-map g.params param_name in
    omega arith

pub params_fit : (m : Module) (k : ℕ) (f : Function) → slice_get m.functions k ≡ Some f → length f.params ≤ length (register_names m k)
params_fit m k f e = params_few (slice_get m.functions k) f e

-- ---- a call

pub stands_at : (m : Module) (s : ThreadData) (i : Inst) → inst_of m s ≡ Some i → StandsAtCall m (reverse s.frames.items)
stands_at m s i e = by_first (reverse s.frames.items) e
  where
    by_first : (fs : List FrameData) → first_inst m fs ≡ Some i → StandsAtCall m fs
    by_first [] e = tt
    by_first (g ∷ outer) e = subst IsSome (sym e) refl

pub call_goes : (m : Module) (s new : ThreadData) (i : Inst) (k : ℕ) (g : Function) (words : List Word) (values : List (Option Word)) (args : List Typed) (f : Frame) (rest : List Frame) → FirstBegins (reverse s.frames.items) → inst_of m s ≡ Some i → (thread_seen m s).frames ≡ f ∷ rest → slice_get m.functions k ≡ Some g → defined_at m (Some k) ≡ CallsFunction k g.params →
    operand_words m (registers m s) args ≡ Ok words → values ≡ put_words (length g.params) words (replicate (length (register_names m k)) None) → IsSeen m new (with_frames (thread_seen m s) (entered m k values s ∷ (thread_seen m s).frames)) →
    IsOwn m s new (next_call m (thread_seen m s) f rest i.result args (defined_at m (Some k))) (Ok Went)
call_goes m s new i k g words values args f rest begins is frames there defined read are seen =
    let t : ThreadState = thread_seen m s in
    let regs : registers_seen (register_names m k) values ≡ bound g.params words = ap (registers_seen (register_names m k)) are ∙ function_registers (slice_get m.functions k) g words there in
    let back : back_seen m (reverse s.frames.items) ≡ i.result = back_of m (reverse s.frames.items) begins ∙ ap result_of is in
    let own : f.code.registers ≡ registers m s = sym (ap first_registers frames) in
    subst (λ c. IsOwn m s new (next_call m t f rest i.result args c) (Ok Went)) (sym defined)
    (subst (λ r. IsOwn m s new (with_found r (λ ws. Local (with_frames t (called k g.params ws i.result ∷ f ∷ rest)))) (Ok Went)) (sym (ap (λ r. operand_words m r args) own ∙ read)) (
      seen.0,
      seen.1 ∙ (λ j. with_frames t (record { code = record { at = record { function = k; block = 0; index = 0 }; phase = Begins; registers = regs j; back = back j }; blocks = [] } ∷ frames j)),
    ))

pub call_traps : (m : Module) (s : ThreadData) (i : Inst) (k : ℕ) (params : List Param) (e : Trap) (args : List Typed) (f : Frame) (rest : List Frame) → IsThread m s → (thread_seen m s).frames ≡ f ∷ rest → defined_at m (Some k) ≡ CallsFunction k params → operand_words m (registers m s) args ≡ Err e →
    IsOwn m s s (next_call m (thread_seen m s) f rest i.result args (defined_at m (Some k))) (Err e)
call_traps m s i k params e args f rest thread frames defined read =
    let t : ThreadState = thread_seen m s in
    let own : f.code.registers ≡ registers m s = sym (ap first_registers frames) in
    subst (λ c. IsOwn m s s (next_call m t f rest i.result args c) (Err e)) (sym defined)
    (subst (λ r. IsOwn m s s (with_found r (λ ws. Local (with_frames t (called k params ws i.result ∷ f ∷ rest)))) (Err e)) (sym (ap (λ r. operand_words m r args) own ∙ read)) (refl, (thread, refl)))

pub bound_ok : {U : Type 0} (r : Result (List Word) Trap) (params : ℕ) (old new : List (Option Word)) (u : U) → AreBound r params old new (Ok u) → (words : List Word) × (r ≡ Ok words) × (new ≡ put_words params words old)
bound_ok (Ok words) params old new u h = (words, refl, h)
bound_ok (Err e) params old new u h = absurd h

pub bound_err : (r : Result (List Word) Trap) (params : ℕ) (old new : List (Option Word)) (e : Trap) → AreBound {U = Unit {0}} r params old new (Err e) → r ≡ Err e
bound_err (Ok words) params old new e h = absurd h
bound_err (Err x) params old new e h = ap Err h

pub ok_is : {A E : Type 0} (P : A → Type 0) (r : Result A E) (a : A) → IfOk r P → r ≡ Ok a → P a
ok_is P r a h e = subst (λ x. IfOk x P) e h

pub values_size : (names : List Name) (count n : ℕ) (words : List Word) (values : List (Option Word)) → values ≡ put_words n words (replicate count None) → count ≡ length names → length values ≡ length names
values_size names count n words values is size = ap (λ (vs : List (Option Word)). length vs) is ∙ put_length n words (replicate count None) ∙ length-replicate count None ∙ size

pub entered_ok : {U E : Type 0} (m : Module) (k : ℕ) (values : List (Option Word)) (s new : ThreadData) (r : Result U E) (u : U) → HasEntered m k values s new r → r ≡ Ok u → IsSeen m new (with_frames (thread_seen m s) (entered m k values s ∷ (thread_seen m s).frames))
entered_ok m k values s new r u h e = subst (HasEntered m k values s new) e h

pub entered_err : {U E : Type 0} (m : Module) (k : ℕ) (values : List (Option Word)) (s new : ThreadData) (r : Result U E) (x : E) → HasEntered m k values s new r → r ≡ Err x → IsSeen m new (thread_seen m s)
entered_err m k values s new r x h e = subst (HasEntered m k values s new) e h
