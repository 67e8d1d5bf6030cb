-- A thread's next step, of each instruction that reads or changes more than one thing.
use Rattle.std.proofs.Common.{◌≡◌, ℕ, zero, suc, ◌+◌, ◌≤◌, ℤ, pos, List, [], ◌∷◌, ◌++◌, length, map, replicate, Bool, true, false, cond, ◌&&◌, Option, Some, None, Result, Ok, Err, refl, sym, ap, ◌∙◌, subst, arith}
use Rattle.std.specs.Prelude.{All, ◌==◌, nat_le, is_some, if◌then◌else◌}
use Rattle.std.specs.Str.{bytes_eq}
use Rattle.std.specs.FinMap as fin
use Rattle.std.proofs.lemmas.Bool.{and_parts, le-leb, eq-eqb, eqb-true, false_from_ne_true}
use Rattle.std.proofs.lemmas.Slice.Eq.{bytes_eq-Decides}
use Rattle.ir_core.specs.declared.types.Ty.{Ty}
use Rattle.ir_core.specs.declared.instructions.Value.{Value}
use Rattle.ir_core.specs.declared.instructions.Value.TheVariants.{Int as IntValue, Null, Local as Register, Global as GlobalValue}
use Rattle.ir_core.specs.declared.instructions.Typed.{Typed}
use Rattle.ir_core.specs.declared.instructions.Case.{Case}
use Rattle.ir_core.specs.declared.instructions.RmwOp.{RmwOp}
use Rattle.ir_core.specs.declared.instructions.Kind.{Kind}
use Rattle.ir_core.specs.declared.instructions.Kind.TheVariants.{Bin, ICmp, Cast, Select, Phi, Alloca, Load as LoadInst, Store as StoreInst, Rmw, Gep, Fence, Call, Br, CondBr, Switch, Ret, Unreachable as UnreachableInst}
use Rattle.ir_core.specs.declared.instructions.Inst.{Inst}
use Rattle.ir_core.specs.declared.module.Module.{Module}
use Rattle.ir_core.specs.declared.rtl.Rtl.{Rtl}
use Rattle.ir_core.specs.declared.rtl.Rtl.TheVariants.{TargetInit, TargetDeinit, Parallel, AllocShared, FreeShared, GetSharedVariables, Barrier as RegionBarrier, GlobalThreadNum, ThreadNum, NumThreads, Level, ParallelLevel, InParallel, IsSpmdExecMode, ForStaticInit, ForStaticFini, Print, KernelEndParallel, HardwareThreadId}
use Rattle.ir_core.specs.Layout.{Size}
use Rattle.mem_model.specs.declared.memory.BlockName.{BlockName}
use Rattle.mem_model.specs.declared.memory.BlockName.TheVariants.{Stack, Captures}
use Rattle.mem_model.specs.declared.memory.Ptr.{Ptr}
use Rattle.mem_model.specs.declared.memory.Ptr.TheVariants.{Num as Number, At}
use Rattle.mem_model.specs.declared.memory.Byte.{Byte}
use Rattle.mem_model.specs.declared.memory.Byte.TheVariants.{Num}
use Rattle.mem_model.specs.declared.memory.Word.{Word}
use Rattle.mem_model.specs.declared.memory.Word.TheVariants.{Int, Ptr as Address}
use Rattle.mem_model.specs.declared.memory.Cell.{Cell}
use Rattle.mem_model.specs.declared.memory.Cell.TheVariants.{Int as IntCell, Ptr as PtrCell}
use Rattle.mem_model.specs.declared.step.Trap.{Trap}
use Rattle.mem_model.specs.declared.step.Trap.TheVariants.{Constant, TooLarge, NotStack, Division, Unreachable}
use Rattle.mem_model.specs.Words.{cell_size, number_bytes, word_in}
use Rattle.mem_model.specs.Memory.{Memory, Shares, access, unless, bytes_at, load_from, store_to, Load, Store, block_limit}
use Rattle.mem_model.specs.declared.phase.LoopPoint.{LoopPoint}
use Rattle.mem_model.specs.declared.phase.LoopPoint.TheVariants.{Considers, HasWorked, EndsRegion, HasEnded, HasRested}
use Rattle.mem_model.specs.declared.phase.Phase.{Phase}
use Rattle.mem_model.specs.declared.phase.Phase.TheVariants.{Begins, Gathered, InRegion, Loops}
use Rattle.mem_model.specs.Thread.{Name, Place, Registers, Code, Frame, ThreadState, Spot, Where, InStack, Elsewhere, where_is, assigned, same_spot, find_block, or_else, find_in, put_block, put_in, store_own}
use Rattle.ir_core.specs.Places.{labels, function_place, place_in, PhiNode, edge_from, label_at, inst_at}
use Rattle.mem_model.specs.Values.{register_word, value_word, operand, operand_words, and_then}
use Rattle.mem_model.specs.Eval.{signed}
use Rattle.mem_model.specs.Regions.{Fork, fork_of, words_operand, captured, words_formed, in_region}
use Rattle.mem_model.specs.Schedules.{Turns}
use Rattle.mem_model.specs.Entries.{is_worker, runs_loop, forks, put_own, get_own, releases, Slots, int32, truth_word, put_bounds, put_turns, schedules, fits_32, starts_loop, next_known, next_entry, work_word}
use Rattle.mem_model.specs.Work.{stores_work, answers_kind, answers_call, answers_in, answers_frames, next_loop}
use Rattle.mem_model.specs.Update.{Updated, update_number, update_at}
use Rattle.mem_model.specs.Next.{NextStep, Local, Trapped, with_found, with_number, with_pointer, with_result, with_scalar, with_frames, code_on, code_past, goes_on, goes_past, in_phase, result_of, phi_word, with_phis, enters, to_block, to_label, is_case, case_for, loads, stores, updates, allocates, Callee, CallsEntry, CallsFunction, CallsOther, callee_of, called, next_call, goes_back, back_in, returns, next_kind, next_inst, enters_region, enters_kind, enters_at, next_in, next_frames, Next, resumed_frames, arrived_frames}
use Rattle.mem_model.specs.Launching.{thread_at}
use Rattle.mem_laws.specs.StepLaws.{StandsAt, IsNot, PhisSwap, SwitchFirst, SwitchOther, CallBegins, ReturnGoesBack, CallReturns, ReturnLeaves, AllocaMakes, HasNoNewer, FirstThreadIsNew, NamesAreNew, AllocaEnds, UpdateInOne, UpdateOfConstant}
use Rattle.mem_model.proofs.StepCases.{LeadsTo, if_found, if_number, if_pointer, if_result, if_either, if_scalar}
use Rattle.mem_model.proofs.AccessTests.{begin, in_block}
use Rattle.mem_model.proofs.StoreLaws.{access_reads}

-- the next step is that of the instruction at which the thread stands
pub next_is : (m : Module) (t : ThreadState) (f : Frame) (rest : List Frame) (x : Option Name) (k : Kind) → StandsAt m t f rest x k → Next m t ≡ next_kind m t f rest x k
next_is m t f rest x k s = ap (next_frames m t) s.calls ∙ ap (next_in m t f rest (inst_at m f.code.at)) s.begins ∙ ap (next_inst m t f rest) s.inst

-- ---- registers

pub assigned_here : (r : Registers) (x : Name) (w : Word) → assigned r (Some x) w x ≡ Some w
assigned_here r x w = ap (λ b. cond b (Some w) (r x)) ((bytes_eq-Decides x x).1 refl)

pub assigned_else : (r : Registers) (x y : Name) (w : Word) → (y ≡ x → ⊥) → assigned r (Some x) w y ≡ r y
assigned_else r x y w apart = ap (λ b. cond b (Some w) (r y)) (false_from_ne_true (bytes_eq y x) (λ e. apart ((bytes_eq-Decides y x).0 e)))

-- ---- branches

pub phis_swap : PhisSwap
phis_swap m t f rest result to b x y xs ys v w s place phis ex ey apart hx hy =
    (after, next_is m t f rest result (Br to) s ∙ ap (to_block m t f rest) place ∙ ap arrives phis ∙ (λ i. both (first i) (second i)), assigned_else (assigned before (Some x) w) y x v apart ∙ assigned_here before x w, assigned_here (assigned before (Some x) w) y v)
  where
    before : Registers
    before = f.code.registers

    after : Registers
    after = assigned (assigned before (Some x) w) (Some y) v

    place_behind : ℕ → Place
    place_behind n = record { function = f.code.at.function; block = b; index = n }

    arrives : List PhiNode → NextStep
    arrives ps = with_found (with_phis m before (label_at m f.code.at) ps before) (enters t f rest (place_behind (length ps)))

    both : Result Word Trap → Result Word Trap → NextStep
    both a c = with_found (and_then a (λ p. and_then c (λ q. Ok (assigned (assigned before (Some x) p) (Some y) q)))) (enters t f rest (place_behind 2))

    first : phi_word m before (edge_from xs (label_at m f.code.at)) ≡ Ok w
    first = ap (phi_word m before) ex ∙ ap register_word hy

    second : phi_word m before (edge_from ys (label_at m f.code.at)) ≡ Ok v
    second = ap (phi_word m before) ey ∙ ap register_word hx

is_case_only : (n : ℕ) (v : Value) → is_case n v ≡ true → v ≡ IntValue n
is_case_only n (IntValue k) e = ap IntValue (sym (eqb-true n k e))
is_case_only n Null e = let f : ⊥ = cc in absurd f
is_case_only n (Register x) e = let f : ⊥ = cc in absurd f
is_case_only n (GlobalValue x) e = let f : ⊥ = cc in absurd f

is_no_case : (n : ℕ) (c : Case) → IsNot n c → is_case n c.value.value ≡ false
is_no_case n c not = false_from_ne_true (is_case n c.value.value) (λ e. not (is_case_only n c.value.value e))

-- cases of other numbers are passed over
passes : (n : ℕ) (other : Name) (before behind : List Case) → All (IsNot n) before → case_for n other (before ++ behind) ≡ case_for n other behind
passes n other [] behind none = refl
passes n other (c ∷ cs) behind none =
    ap (λ b. if b then c.block else case_for n other (cs ++ behind)) (is_no_case n c (none 0 c (omega arith))) ∙ passes n other cs behind (λ k d low. none (suc k) d (omega arith))

takes : (n : ℕ) (other : Name) (c : Case) (behind : List Case) → c.value.value ≡ IntValue n → case_for n other (c ∷ behind) ≡ c.block
takes n other c behind e = ap (λ v. if is_case n v then c.block else case_for n other behind) e ∙ ap (λ b. if b then c.block else case_for n other behind) (eq-eqb n n refl)

switches : (m : Module) (t : ThreadState) (f : Frame) (rest : List Frame) (result : Option Name) (on : Typed) (other : Name) (cases : List Case) (n : ℕ) → StandsAt m t f rest result (Switch on other cases) → operand m f.code.registers on.ty on.value ≡ Ok (Int n) →
    Next m t ≡ to_label m t f rest (case_for n other cases)
switches m t f rest result on other cases n s e = next_is m t f rest result (Switch on other cases) s ∙ ap (λ found. with_found found (λ v. with_number v (λ n. to_label m t f rest (case_for n other cases)))) e

pub switch_first : SwitchFirst
switch_first m t f rest result on other before behind c n s e none is =
    switches m t f rest result on other (before ++ c ∷ behind) n s e ∙ ap (to_label m t f rest) (passes n other before (c ∷ behind) none ∙ takes n other c behind is)

append_none : {A : Type 0} (xs : List A) → xs ++ [] ≡ xs
append_none [] = refl
append_none (x ∷ xs) = ap (λ ys. x ∷ ys) (append_none xs)

pub switch_other : SwitchOther
switch_other m t f rest result on other cases n s e none =
    switches m t f rest result on other cases n s e ∙ ap (to_label m t f rest) (ap (case_for n other) (sym (append_none cases)) ∙ passes n other cases [] none)

-- ---- calls and returns

pub call_begins : CallBegins
call_begins m t f rest result tail_word ret callee operands k params words s is found =
    next_is m t f rest result (Call tail_word ret callee operands) s ∙ ap (next_call m t f rest result operands) is ∙ ap (λ r. with_found r (λ ws. Local (with_frames t (called k params ws result ∷ f ∷ rest)))) found

pub return_goes_back : ReturnGoesBack
return_goes_back m t g f rest result v word s begins found =
    next_is m t g (f ∷ rest) result (Ret (Some v)) s ∙ ap (λ r. with_found r (λ w. returns t (f ∷ rest) g.code.back (Some w))) found ∙ ap (λ p. Local (back_in p t f rest g.code.back (Some word))) begins

local_or : ThreadState → NextStep → ThreadState
local_or d (Local t) = t
local_or d _ = d

local_injective : (t u : ThreadState) → Local t ≡ Local u → t ≡ u
unfolding local_or
local_injective t u e = ap (local_or t) e

pub call_returns : CallReturns
call_returns m t u f rest result of_return tail_word ret callee operands k params words v word s is found goes r value =
    return_goes_back m u (called k params words result) f rest of_return v word r s.begins value ∙ ap (λ x. Local (goes_on x f rest result word)) (sym (local_injective begun u (sym (call_begins m t f rest result tail_word ret callee operands k params words s is found) ∙ goes)))
  where
    begun : ThreadState
    begun = with_frames t (called k params words result ∷ f ∷ rest)

pub return_leaves : ReturnLeaves
return_leaves m t f result s = next_is m t f [] result (Ret None) s

-- ---- stack blocks

pub alloca_makes : AllocaMakes
alloca_makes m t f rest x ty align s small =
    (u, g, next_is m t f rest (Some x) (Alloca ty align) s ∙ ap (λ b. if b then Local u else Trapped TooLarge) (le-leb (Size m.types ty) block_limit small), refl, assigned_here f.code.registers x (Address (At (Stack t.own t.counter) (pos 0))), ap (λ b. or_else (cond b (Some zeros) (find_block f.blocks spot)) (find_in rest spot)) same)
  where
    spot : Spot
    spot = (t.own, t.counter)

    zeros : List Byte
    zeros = replicate (Size m.types ty) (Num 0)

    g : Frame
    g = record {
      code = record f.code {
        at = record f.code.at { index = f.code.at.index + 1 };
        phase = Begins;
        registers = assigned f.code.registers (Some x) (Address (At (Stack t.own t.counter) (pos 0)));
      };
      blocks = (spot, zeros) ∷ f.blocks;
    }

    u : ThreadState
    u = record t { counter = t.counter + 1; frames = g ∷ rest }

    same : same_spot spot spot ≡ true
    same = ap (λ b. b && t.counter == t.counter) (eq-eqb t.own t.own refl) ∙ eq-eqb t.counter t.counter refl

back_finds : (word : Option Word) (t : ThreadState) (f : Frame) (rest : List Frame) (back : Option Name) (spot : Spot) → find_in (goes_back t f rest back word).frames spot ≡ find_in (f ∷ rest) spot
back_finds None t f rest back spot = refl
back_finds (Some word) t f rest back spot = refl

-- a return changes no block of the calls that are left
return_finds : (p : Phase) (word : Option Word) (t : ThreadState) (f : Frame) (rest : List Frame) (back : Option Name) (spot : Spot) → find_in (back_in p t f rest back word).frames spot ≡ find_in (f ∷ rest) spot
return_finds InRegion word t f rest back spot = refl
return_finds (Loops point) word t f rest back spot = refl
return_finds _ word t f rest back spot = back_finds word t f rest back spot

returned : (m : Module) (t u : ThreadState) (g f : Frame) (rest : List Frame) (spot : Spot) → find_in (f ∷ rest) spot ≡ None → (r : Result Word Trap) → with_found r (λ word. returns t (f ∷ rest) g.code.back (Some word)) ≡ Local u → find_in u.frames spot ≡ None
returned m t u g f rest spot none (Err e) goes = let f : ⊥ = cc in absurd f
returned m t u g f rest spot none (Ok word) goes = ap (λ x. find_in x.frames spot) (sym (local_injective _ u goes)) ∙ return_finds f.code.phase (Some word) t f rest g.code.back spot ∙ none

pub alloca_ends : AllocaEnds
alloca_ends m t u g f rest result None spot s none goes =
    ap (λ x. find_in x.frames spot) (sym (local_injective _ u (sym (next_is m t g (f ∷ rest) result (Ret None) s) ∙ goes))) ∙ return_finds f.code.phase None t f rest g.code.back spot ∙ none
alloca_ends m t u g f rest result (Some v) spot s none goes = returned m t u g f rest spot none (value_word m g.code.registers v.value) (sym (next_is m t g (f ∷ rest) result (Ret (Some v)) s) ∙ goes)

-- ---- names of stack blocks

-- these calls have no block of this stack from a number on
abbrev NoneFrom : ℕ → ℕ → List Frame → Type 0
NoneFrom own count fs = (n : ℕ) → count ≤ n → find_in fs (own, n) ≡ None

-- behind a step of the thread's own there is none from the number on of the blocks that were made
abbrev Keeps : NextStep → Type 0
Keeps = LeadsTo HasNoNewer (λ event. Unit {0})

keeps_found : {A : Type 0} (r : Result A Trap) (go : A → NextStep) → ((x : A) → Keeps (go x)) → Keeps (with_found r go)
keeps_found = if_found HasNoNewer (λ event. Unit {0})

keeps_number : (w : Word) (go : ℕ → NextStep) → ((n : ℕ) → Keeps (go n)) → Keeps (with_number w go)
keeps_number = if_number HasNoNewer (λ event. Unit {0})

keeps_pointer : (w : Word) (go : Ptr → NextStep) → ((p : Ptr) → Keeps (go p)) → Keeps (with_pointer w go)
keeps_pointer = if_pointer HasNoNewer (λ event. Unit {0})

keeps_result : {A : Type 0} (o : Option A) (go : A → NextStep) → ((x : A) → Keeps (go x)) → Keeps (with_result o go)
keeps_result = if_result HasNoNewer (λ event. Unit {0})

keeps_either : (test : Bool) (x y : NextStep) → Keeps x → Keeps y → Keeps (if test then x else y)
keeps_either = if_either HasNoNewer (λ event. Unit {0})

keeps_scalar : (ty : Ty) (go : NextStep) → Keeps go → Keeps (with_scalar ty go)
keeps_scalar = if_scalar HasNoNewer (λ event. Unit {0})

both_none : (a b : Option (List Byte)) → or_else a b ≡ None → (a ≡ None) × (b ≡ None)
both_none None b e = (refl, e)
both_none (Some x) b e = let f : ⊥ = cc in absurd f

put_test : (same : Bool) (old new : List Byte) (a b : Option (List Byte)) → (a ≡ None → b ≡ None) → cond same (Some old) a ≡ None → cond same (Some new) b ≡ None
put_test true old new a b h e = let f : ⊥ = cc in absurd f
put_test false old new a b h e = h e

put_none : (spot s : Spot) (bytes : List Byte) (bs : List (Spot × List Byte)) → find_block bs s ≡ None → find_block (map (put_block spot bytes) bs) s ≡ None
put_none spot s bytes [] none = refl
put_none spot s bytes (b ∷ bs) none = put_test (same_spot s b.0) b.1 (cond (same_spot spot b.0) bytes b.1) (find_block bs s) (find_block (map (put_block spot bytes) bs) s) (λ e. put_none spot s bytes bs e) none

put_in_none : (spot s : Spot) (bytes : List Byte) (fs : List Frame) → find_in fs s ≡ None → find_in (put_in spot bytes fs) s ≡ None
put_in_none spot s bytes [] none = refl
put_in_none spot s bytes (f ∷ fs) none =
    let p = both_none (find_block f.blocks s) (find_in fs s) none in ap (λ o. or_else o (find_in (put_in spot bytes fs) s)) (put_none spot s bytes f.blocks p.0) ∙ put_in_none spot s bytes fs p.1

-- what holds of the thing that was found, where one was
abbrev Found : {A : Type 0} → (A → Type 0) → Result A Trap → Type 0
Found P (Err e) = Unit {0}
Found P (Ok x) = P x

keeps_with : {A : Type 0} (P : A → Type 0) (r : Result A Trap) (go : A → NextStep) → Found P r → ((x : A) → P x → Keeps (go x)) → Keeps (with_found r go)
keeps_with P (Err e) go h k = tt
keeps_with P (Ok x) go h k = k x h

found_then : {A B : Type 0} (P : A → Type 0) (Q : B → Type 0) (r : Result A Trap) (go : A → Result B Trap) → Found P r → ((x : A) → P x → Found Q (go x)) → Found Q (and_then r go)
found_then P Q (Err e) go h k = tt
found_then P Q (Ok x) go h k = k x h

-- words that are put into blocks make none
module _ (own count : ℕ) where
  puts : (fs : List Frame) (spot : Spot) → NoneFrom own count fs → (r : Result (List Byte) Trap) → Found (NoneFrom own count) (and_then r (λ bytes. Ok (put_in spot bytes fs)))
  puts fs spot h (Err e) = tt
  puts fs spot h (Ok bytes) = λ n low. put_in_none spot (own, n) bytes fs (h n low)

  puts_own : (fs : List Frame) (w : Where) (cell : Cell) (word : Word) → NoneFrom own count fs → Found (NoneFrom own count) (put_own fs w cell word)
  puts_own fs (Elsewhere p) cell word h = tt
  puts_own fs (InStack spot offset) cell word h = puts fs spot h (store_own (find_in fs spot) offset cell word)

  puts_bounds : (s : Slots) (bounds : Option (ℤ × ℤ)) (fs : List Frame) → NoneFrom own count fs → Found (NoneFrom own count) (put_bounds s bounds fs)
  puts_bounds s None fs h = h
  puts_bounds s (Some b) fs h =
      found_then (NoneFrom own count) (NoneFrom own count) _ _ (puts_own fs s.lower (IntCell 32) (int32 b.0) h) (λ gs k. puts_own gs s.upper (IntCell 32) (int32 b.1) k)

  puts_turns : (s : Slots) (share : Turns) (fs : List Frame) → NoneFrom own count fs → Found (NoneFrom own count) (put_turns s share fs)
  puts_turns s share fs h =
      found_then (NoneFrom own count) (NoneFrom own count) _ _ (puts_own fs s.last (IntCell 32) (truth_word share.last) h) (λ gs k.
      found_then (NoneFrom own count) (NoneFrom own count) _ _ (puts_bounds s share.bounds gs k) (λ hs j. puts_own hs s.stride (IntCell 32) (int32 share.stride) j))

newer : (own count n : ℕ) → count + 1 ≤ n → same_spot (own, n) (own, count) ≡ false
newer own count n low = false_from_ne_true (same_spot (own, n) (own, count)) (λ e. let q = eqb-true n count (and_parts (own == own) (n == count) e).1 in omega arith)

-- a region function begins on two new blocks
pub keeps_region : (m : Module) (t : ThreadState) (below : List Frame) → NoneFrom t.own t.counter below → (function : ℕ) (words : List Word) → HasNoNewer (in_region m t below function words)
keeps_region m t below k function words n low =
    ap (λ b. or_else (cond b (Some (number_bytes 4 0)) (cond (same_spot (t.own, n) (t.own, t.counter)) (Some (number_bytes 4 t.own)) None)) (find_in below (t.own, n))) (newer t.own (t.counter + 1) n (omega arith))
    ∙ ap (λ b. or_else (cond b (Some (number_bytes 4 t.own)) None) (find_in below (t.own, n))) (newer t.own t.counter n (omega arith))
    ∙ k n (omega arith)

module _ (m : Module) (t : ThreadState) (f : Frame) (rest : List Frame) (h : NoneFrom t.own t.counter (f ∷ rest)) where
  keeps_loads : (x : Option Name) (cell : Cell) (w : Where) → Keeps (loads t f rest x cell w)
  keeps_loads x cell (InStack spot offset) = search (keeps_found, h)
  keeps_loads x cell (Elsewhere p) = tt

  keeps_put : (spot : Spot) (bytes : List Byte) (c : Code) → Keeps (Local (with_frames t (put_in spot bytes (record f { code = c } ∷ rest))))
  keeps_put spot bytes c n low = put_in_none spot (t.own, n) bytes (f ∷ rest) (h n low)

  keeps_stores : (cell : Cell) (word : Word) (w : Where) → Keeps (stores t f rest cell word w)
  keeps_stores cell word (InStack spot offset) = search (keeps_found, keeps_put)
  keeps_stores cell word (Elsewhere p) = tt

  keeps_updates : (x : Option Name) (width : ℕ) (op : RmwOp) (k : ℕ) (w : Where) → Keeps (updates t f rest x width op k w)
  keeps_updates x width op k (InStack spot offset) = search (keeps_found, keeps_number, keeps_put)
  keeps_updates x width op k (Elsewhere p) = tt

  keeps_allocates : (x : Option Name) (size : ℕ) → Keeps (allocates t f rest x size)
  keeps_allocates x size = keeps_either (nat_le size block_limit) (Local new) (Trapped TooLarge) is_new tt
    where
      zeros : List Byte
      zeros = replicate size (Num 0)

      new : ThreadState
      new = record t {
        counter = t.counter + 1;
        frames = record { code = code_on f.code x (Address (At (Stack t.own t.counter) (pos 0))); blocks = ((t.own, t.counter), zeros) ∷ f.blocks } ∷ rest;
      }

      is_new : HasNoNewer new
      is_new = λ n low. ap (λ b. or_else (cond b (Some zeros) (find_block f.blocks (t.own, n))) (find_in rest (t.own, n))) (newer t.own t.counter n low) ∙ h n (omega arith)

  keeps_shared : (w : Where) → Keeps (with_found (put_own (record f { code = code_past f.code } ∷ rest) w PtrCell (Address (At Captures (pos 0)))) (λ fs. Local (with_frames t fs)))
  keeps_shared w = keeps_with (NoneFrom t.own t.counter) _ _ (puts_own t.own t.counter (record f { code = code_past f.code } ∷ rest) w PtrCell (Address (At Captures (pos 0))) h) (λ fs k. k)

  keeps_releases : (size : ℕ) (w : Where) → Keeps (releases size w)
  keeps_releases size (InStack spot offset) = tt
  keeps_releases size (Elsewhere p) = tt

  keeps_schedules : (schedule : ℕ) (s : Slots) (increment chunk : ℤ) → Keeps (schedules t f rest schedule s increment chunk)
  keeps_schedules schedule s increment chunk =
      keeps_found (get_own (f ∷ rest) s.lower) _ (λ lower. keeps_found (get_own (f ∷ rest) s.upper) _ (λ upper.
      keeps_with (NoneFrom t.own t.counter) _ _ (puts_turns t.own t.counter s _ (record f { code = code_past f.code } ∷ rest) h) (λ fs k. k)))

  keeps_starts : (words : List Word) → Keeps (starts_loop t f rest words)
  keeps_starts (place ∷ number ∷ Int schedule ∷ Address last ∷ Address lower ∷ Address upper ∷ Address stride ∷ Int increment ∷ Int chunk ∷ []) =
      keeps_either (fits_32 increment chunk) _ (Trapped Unreachable)
      (keeps_either _ _ (Trapped NotStack) (keeps_either (increment == 0) (Trapped Division) _ tt (keeps_schedules schedule _ (signed 32 increment) (signed 32 chunk))) tt) tt
  keeps_starts _ = tt

  keeps_known : (x : Option Name) (r : Rtl) (words : List Word) → Keeps (next_known t f rest x r words)
  keeps_known x AllocShared (Int size ∷ []) = tt
  keeps_known x FreeShared (Address p ∷ Int size ∷ []) = keeps_releases size (where_is p)
  keeps_known x GetSharedVariables (Address p ∷ []) = keeps_shared (where_is p)
  keeps_known x RegionBarrier words = keeps_either (t.answers.level == 0) (Local (goes_past t f rest)) _ h tt
  keeps_known x GlobalThreadNum words = h
  keeps_known x ThreadNum words = h
  keeps_known x NumThreads words = h
  keeps_known x Level words = h
  keeps_known x ParallelLevel words = h
  keeps_known x InParallel words = h
  keeps_known x IsSpmdExecMode words = h
  keeps_known x ForStaticInit words = keeps_starts words
  keeps_known x ForStaticFini words = h
  keeps_known x Print (Int n ∷ []) = tt
  keeps_known x KernelEndParallel words = h
  keeps_known x HardwareThreadId words = h
  keeps_known x _ words = tt

  keeps_forks : (words : List Word) (fork : Fork) → Keeps (forks t f rest words fork)
  keeps_forks words fork = keeps_either t.enters _ _ tt (keeps_found (captured (f ∷ rest) (words_operand words) fork.count) _ (λ ps. tt))

  keeps_entry : (x : Option Name) (operands : List Typed) (r : Rtl) → Keeps (next_entry m t f rest x operands r)
  keeps_entry x operands TargetInit = keeps_either (is_worker t && runs_loop operands) _ _ h h
  keeps_entry x operands TargetDeinit = tt
  keeps_entry x operands Parallel = keeps_found (operand_words m f.code.registers operands) _ (λ words. keeps_result (fork_of m operands) _ (keeps_forks words))
  keeps_entry x operands r = keeps_found (operand_words m f.code.registers operands) _ (keeps_known x r)

  keeps_call : (x : Option Name) (operands : List Typed) (c : Callee) → Keeps (next_call m t f rest x operands c)
  keeps_call x operands (CallsEntry r) = keeps_entry x operands r
  keeps_call x operands (CallsFunction k params) = search (keeps_found, h)
  keeps_call x operands CallsOther = tt

  keeps_enters : (o : Option Inst) → Keeps (enters_at m t f rest o)
  keeps_enters None = tt
  keeps_enters (Some i) = by_kind i.kind
    where
      keeps_words : (words : List Word) (fork : Fork) → Keeps (enters_region m t f rest words fork)
      keeps_words words fork =
          keeps_found (captured (f ∷ rest) (words_operand words) fork.count) _ (λ ps. keeps_found (words_formed m fork.wrapper ps) _ (λ ws. keeps_region m t (in_phase InRegion f ∷ rest) h fork.function ws))

      by_kind : (k : Kind) → Keeps (enters_kind m t f rest k)
      by_kind (Call tail_word ret callee operands) = keeps_found (operand_words m f.code.registers operands) _ (λ words. keeps_result (fork_of m operands) _ (keeps_words words))
      by_kind _ = tt

  -- a step of the runtime's own loop
  keeps_loop : (x : Option Name) (point : LoopPoint) → Keeps (next_loop m t f rest x point)
  keeps_loop x (Considers (suc n) work) = h
  keeps_loop x (Considers zero None) = h
  keeps_loop x (Considers zero (Some wrapper)) = h
  keeps_loop x HasWorked = h
  keeps_loop x EndsRegion = h
  keeps_loop x HasEnded = h
  keeps_loop x HasRested = h
  keeps_loop x _ = tt

  keeps_block : (o : Option ℕ) → Keeps (to_block m t f rest o)
  keeps_block None = tt
  keeps_block (Some b) = search (keeps_found, h)

  keeps_label : (x : Name) → Keeps (to_label m t f rest x)
  keeps_label x = keeps_block (place_in (labels m f.code.at.function) x)

-- the calls that are left have no newer block
keeps_back : (p : Phase) (t : ThreadState) (f : Frame) (rest : List Frame) → NoneFrom t.own t.counter (f ∷ rest) → (back : Option Name) (word : Option Word) → HasNoNewer (back_in p t f rest back word)
keeps_back InRegion t f rest h back word = h
keeps_back (Loops point) t f rest h back word = h
keeps_back _ t f rest h back None = h
keeps_back _ t f rest h back (Some word) = h

keeps_returns : (t : ThreadState) (f : Frame) (rest : List Frame) → NoneFrom t.own t.counter (f ∷ rest) → (back : Option Name) (word : Option Word) → Keeps (returns t rest back word)
keeps_returns t f [] h back word = tt
keeps_returns t f (g ∷ rest) h back word = keeps_back g.code.phase t g rest (λ n low. (both_none _ _ (h n low)).1) back word

keeps_kind : (m : Module) (t : ThreadState) (f : Frame) (rest : List Frame) → NoneFrom t.own t.counter (f ∷ rest) → (x : Option Name) (k : Kind) → Keeps (next_kind m t f rest x k)
keeps_kind m t f rest h x (Bin op flags ty a b) = search (keeps_found, keeps_number, h) depth 12
keeps_kind m t f rest h x (ICmp pred ty a b) = search (keeps_found, keeps_result, h)
keeps_kind m t f rest h x (Cast op from to) = search (keeps_found, keeps_scalar, h)
keeps_kind m t f rest h x (Select c a b) = search (keeps_found, keeps_number, h) depth 12
keeps_kind m t f rest h x (Phi ty edges) = tt
keeps_kind m t f rest h x (Alloca ty align) = keeps_allocates m t f rest h x (Size m.types ty)
keeps_kind m t f rest h x (LoadInst ty at order align) = search (keeps_found, keeps_pointer, keeps_scalar, keeps_loads m t f rest h)
keeps_kind m t f rest h x (StoreInst value at order align) = search (keeps_found, keeps_pointer, keeps_stores m t f rest h)
keeps_kind m t f rest h x (Rmw op at value order align) = search (keeps_found, keeps_pointer, keeps_number, keeps_updates m t f rest h)
keeps_kind m t f rest h x (Gep inbounds ty base path) = search (keeps_found, keeps_pointer, keeps_result, h) depth 12
keeps_kind m t f rest h x (Fence order) = h
keeps_kind m t f rest h x (Call tail_word ret callee operands) = keeps_call m t f rest h x operands (callee_of m callee)
keeps_kind m t f rest h x (Br to) = keeps_label m t f rest h to
keeps_kind m t f rest h x (CondBr c then_to else_to) = search (keeps_found, keeps_number, keeps_label m t f rest h)
keeps_kind m t f rest h x (Switch on other cases) = search (keeps_found, keeps_number, keeps_label m t f rest h)
keeps_kind m t f rest h x (Ret None) = keeps_returns t f rest h f.code.back None
keeps_kind m t f rest h x (Ret (Some v)) = search (keeps_found, keeps_returns t f rest h f.code.back)
keeps_kind m t f rest h x UnreachableInst = tt

keeps_inst : (m : Module) (t : ThreadState) (f : Frame) (rest : List Frame) → NoneFrom t.own t.counter (f ∷ rest) → (o : Option Inst) → Keeps (next_inst m t f rest o)
keeps_inst m t f rest h None = tt
keeps_inst m t f rest h (Some i) = keeps_kind m t f rest h i.result i.kind

keeps_in : (m : Module) (t : ThreadState) (f : Frame) (rest : List Frame) → NoneFrom t.own t.counter (f ∷ rest) → (o : Option Inst) (p : Phase) → Keeps (next_in m t f rest o p)
keeps_in m t f rest h o Begins = keeps_inst m t f rest h o
keeps_in m t f rest h o Gathered = keeps_enters m t f rest h o
keeps_in m t f rest h o (Loops point) = keeps_loop m t f rest h (result_of o) point
keeps_in m t f rest h o _ = tt

keeps_frames : (m : Module) (t : ThreadState) (fs : List Frame) → NoneFrom t.own t.counter fs → Keeps (next_frames m t fs)
keeps_frames m t [] h = tt
keeps_frames m t (f ∷ rest) h = keeps_in m t f rest h (inst_at m f.code.at) f.code.phase

keeps_resumed : (m : Module) (t : ThreadState) (fs : List Frame) → HasNoNewer t → NoneFrom t.own t.counter fs → (answer : Option Word) → HasNoNewer (resumed_frames m t fs answer)
keeps_resumed m t [] all h answer = all
keeps_resumed m t (f ∷ rest) all h None = h
keeps_resumed m t (f ∷ rest) all h (Some word) = h

keeps_arrived : (t : ThreadState) (fs : List Frame) → HasNoNewer t → NoneFrom t.own t.counter fs → (phase : Option Phase) → HasNoNewer (arrived_frames t fs phase)
keeps_arrived t [] all h phase = all
keeps_arrived t (f ∷ rest) all h None = h
keeps_arrived t (f ∷ rest) all h (Some phase) = h

-- ---- answers to a question for work

module _ (m : Module) (t : ThreadState) (work : Option ℕ) where
  keeps_stores_work : (f : Frame) (rest : List Frame) → NoneFrom t.own t.counter (f ∷ rest) → (x : Option Name) (words : List Word) → Found HasNoNewer (stores_work t f rest x work words)
  keeps_stores_work f rest h x (Address p ∷ []) =
      found_then (NoneFrom t.own t.counter) HasNoNewer _ _ (puts_own t.own t.counter (record f { code = code_on f.code x (truth_word (is_some work)) } ∷ rest) (where_is p) PtrCell (work_word work) h) (λ fs k. k)
  keeps_stores_work f rest h x _ = tt

  keeps_answers : (f : Frame) (rest : List Frame) → NoneFrom t.own t.counter (f ∷ rest) → (o : Option Inst) → Found HasNoNewer (answers_call m t f rest work o)
  keeps_answers f rest h None = tt
  keeps_answers f rest h (Some i) = by_kind i.kind
    where
      by_words : (r : Result (List Word) Trap) → Found HasNoNewer (and_then r (stores_work t f rest i.result work))
      by_words (Err e) = tt
      by_words (Ok words) = keeps_stores_work f rest h i.result words

      by_kind : (k : Kind) → Found HasNoNewer (answers_kind m t f rest i.result work k)
      by_kind (Call tail_word ret callee operands) = by_words (operand_words m f.code.registers operands)
      by_kind _ = tt

  keeps_answers_in : (f : Frame) (rest : List Frame) → NoneFrom t.own t.counter (f ∷ rest) → (p : Phase) → Found HasNoNewer (answers_in m t f rest work p)
  keeps_answers_in f rest h (Loops point) = h
  keeps_answers_in f rest h _ = keeps_answers f rest h (inst_at m f.code.at)

  keeps_work : (fs : List Frame) → NoneFrom t.own t.counter fs → Found HasNoNewer (answers_frames m t fs work)
  keeps_work [] h = tt
  keeps_work (f ∷ rest) h = keeps_answers_in f rest h f.code.phase

-- ---- all kinds of steps

pub first_thread_is_new : FirstThreadIsNew
first_thread_is_new m l role answers = begins (function_place m l.kernel)
  where
    begins : (o : Option ℕ) → HasNoNewer (thread_at m l role answers o)
    begins None n low = refl
    begins (Some k) n low = refl

pub names_are_new : NamesAreNew
names_are_new m t h = record {
  steps = λ u goes. subst Keeps goes (keeps_frames m t t.frames h);
  events = λ answer. keeps_resumed m t t.frames h h answer;
  arrivals = λ phase. keeps_arrived t t.frames h h phase;
  work = λ wrapper u is. subst (Found HasNoNewer) is (keeps_work m t wrapper t.frames h);
  regions = λ function words. keeps_region m t [] (λ n low. refl) function words;
}

-- ---- atomic changes

ok_or : Updated → Result Updated Trap → Updated
ok_or d (Ok u) = u
ok_or d (Err e) = d

ok_injective : (u v : Updated) → ◌≡◌ {A = Result Updated Trap} (Ok u) (Ok v) → u ≡ v
unfolding ok_or
ok_injective u v e = ap (ok_or u) e

-- the word at the place of an update that went through, and the memory that it left
update_there : (m : Memory) (block : BlockName) (cell : Cell) (o : ℕ) (change : ℕ → ℕ) (u : Updated) (r : Result Word Trap) → update_number m block cell o change r ≡ Ok u → (r ≡ Ok (Int u.old)) × (store_to m block cell (Shares (Int (change u.old))) (Ok o) ≡ Ok u.memory)
update_there m block cell o change u (Err e) h = let f : ⊥ = cc in absurd f
update_there m block cell o change u (Ok (Address p)) h = let f : ⊥ = cc in absurd f
update_there m block cell o change u (Ok (Int n)) h =
    let same = ok_injective _ u h in (ap (λ v. Ok (Int v.old)) same, ap (λ v. store_to m block cell (Shares (Int (change v.old))) (Ok o)) (sym same) ∙ ap (λ v. Ok v.memory) same)

update_by : (m : Memory) (block : BlockName) (offset : ℤ) (cell : Cell) (change : ℕ → ℕ) (u : Updated) (r : Result ℕ Trap) → access (fin.get m.blocks block) offset (cell_size cell) true ≡ r → update_at m block cell change r ≡ Ok u →
    (Load m (At block offset) cell ≡ Ok (Int u.old)) × (Store m (At block offset) cell (Shares (Int (change u.old))) ≡ Ok u.memory)
update_by m block offset cell change u (Err e) is h = let f : ⊥ = cc in absurd f
update_by m block offset cell change u (Ok o) is h =
    let p = update_there m block cell o change u (word_in cell (bytes_at m block o (cell_size cell))) h in
    (ap (load_from m block cell) (access_reads (fin.get m.blocks block) offset (cell_size cell) o is) ∙ p.0, ap (store_to m block cell (Shares (Int (change u.old)))) is ∙ p.1)

pub update_in_one : UpdateInOne
update_in_one m (Number n) cell change u h = let f : ⊥ = cc in absurd f
update_in_one m (At block offset) cell change u h = update_by m block offset cell change u (access (fin.get m.blocks block) offset (cell_size cell) true) refl h

pub update_of_constant : UpdateOfConstant
update_of_constant m block offset cell change header e r lies c =
    ap (λ o. update_at m block cell change (access o offset (cell_size cell) true)) e
    ∙ ap (update_at m block cell change) (in_block header offset (cell_size cell) true r lies ∙ ap (λ b. unless b Constant (Ok (begin offset))) c)
