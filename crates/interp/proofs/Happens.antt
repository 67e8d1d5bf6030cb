-- The pending event of a thread, by what its action is, and the step of a team that it is.
use Rattle.std.proofs.Common.{◌≡◌, ℕ, ℤ, zero, suc, Bool, true, false, ◌&&◌, List, [], ◌∷◌, Option, Some, None, Result, Ok, Err, refl, sym, ap, ◌∙◌, subst, slice_get, slice_set}
use Rattle.ir_core.specs.declared.module.Module.{Module}
use Rattle.ir_core.specs.Places.{Name}
use Rattle.mem_model.specs.declared.memory.BlockName.TheVariants.{Arg, Global, Heap, Stack, Captures, Code}
use Rattle.mem_model.specs.declared.memory.Ptr.{Ptr}
use Rattle.mem_model.specs.declared.memory.Ptr.TheVariants.{Num as Number, At}
use Rattle.mem_model.specs.declared.memory.Word.{Word}
use Rattle.mem_model.specs.declared.memory.Cell.{Cell}
use Rattle.mem_model.specs.declared.step.Trap.{Trap}
use Rattle.std.specs.FinMap as fin
use Rattle.ir_core.specs.declared.instructions.RmwOp.{RmwOp}
use Rattle.mem_model.specs.declared.memory.BlockName.{BlockName}
use Rattle.mem_model.specs.declared.memory.Byte.{Byte}
use Rattle.mem_model.specs.declared.memory.Word.TheVariants.{Int, Ptr as Address}
use Rattle.mem_model.specs.declared.step.Trap.TheVariants.{NoBlock, Released, Constant, NotNumber}
use Rattle.mem_model.specs.Words.{cell_size, word_bytes, word_in}
use Rattle.mem_model.specs.Memory.{Memory, Header, Shares, inside, unless, then_unless, access, bytes_at, put_bytes, load_from, store_to, Load, Store}
use Rattle.mem_model.specs.declared.memory.Cell.TheVariants.{Int as IntCell}
use Rattle.mem_model.specs.Values.{updated}
use Rattle.mem_model.specs.Update.{Updated, update_number, update_at, Update}
use Rattle.mem_model.specs.Answers.{IsDone, only_trap}
use Rattle.mem_model.specs.Thread.{Frame, ThreadState, where_is, given_of, find_in, put_in, load_own, store_own}
use Rattle.mem_model.specs.declared.phase.Phase.{Phase}
use Rattle.mem_model.specs.Next.{NextStep, Local, Pending, Done, Trapped, with_found, with_number, with_frames, code_on, loads, stores, updates, Event, Does, Deinit, Forks, Arrives, AsksForWork, Leaves, Loads, Stores, Updates, Prints, Next, line_at, Action, Makes as MakesBlock, Releases}
use Rattle.mem_model.specs.Entries.{releases}
use Rattle.mem_model.specs.Work.{given_work}
use Rattle.mem_model.specs.declared.step.Barrier.{Barrier}
use Rattle.mem_model.specs.declared.step.Barrier.TheVariants.{Team as TeamBarrier}
use Rattle.mem_model.specs.Do.{Effect, Do, stored}
use Rattle.mem_model.proofs.Runs.{some_injective}
use Rattle.team_model.specs.declared.Stand.TheVariants.{Runs, Ended as Gone}
use Rattle.team_model.specs.Team.{TeamShared, Team, opened, takes_work, happens, acts, by_next, by_thread, by_stand, unless_trapped, TeamStep}
use Rattle.thread_state.specs.declared.state.ThreadState.{ThreadState as ThreadData}
use Rattle.thread_state.specs.Seen.{thread_seen, IsThread}
use Rattle.interp_local.specs.Steps.{IsAnswered}
use Rattle.interp.specs.declared.shared.TeamShared.{TeamShared as SharedData}
use Rattle.interp.specs.Events.{shared_seen, by_effect, by_work, made, IsPending, IsUpdated, Makes, IsMadeOrSame}

-- ---- actions that trap

done_err : (r : Result Memory Trap) (old new : Memory) (e : Trap) → IsDone {U = Unit {0}} r old new (Err e) → (r ≡ Err e) × (new ≡ old)
done_err (Ok m) old new e h = let q = h.0 in let f : ⊥ = cc in absurd f
done_err (Err x) old new e h = (ap Err (let q = h.0 in let same : x ≡ e = cc in same), h.1)

-- a store or a release has trapped
pub not_stored : (m : Module) (n line : ℕ) (sh new : SharedData) (s : ThreadData) (action : Action) (r : Result Memory Trap) (trap : Trap) (memory : Memory) → IsThread m s → Do action (shared_seen sh).common ≡ stored (shared_seen sh).common r → IsDone {U = Unit {0}} r sh.memory memory (Err trap) →
    new ≡ record sh { memory = memory; trapped = Some (record { thread = n; line = line; trap = trap }) } → line ≡ line_at m (thread_seen m s) → Makes m n sh new s s (Does action)
not_stored m n line sh new s action r trap memory is does done new_is line_is =
    let p = done_err r sh.memory memory trap done in
    let fails : made m (shared_seen sh) n (thread_seen m s) (Does action) ≡ (record (shared_seen sh) { trapped = Some (record { thread = n; line = line_at m (thread_seen m s); trap = trap }) }, thread_seen m s) =
    ap (by_effect m (shared_seen sh) n (thread_seen m s)) (does ∙ ap (stored (shared_seen sh).common) p.0) in
    record {
      thread = is;
      shared =
          ap shared_seen new_is
          ∙ (λ i. record (shared_seen sh) { common = record { memory = p.1 i; heaps = sh.heaps; prints = sh.prints }; trapped = Some (record { thread = n; line = line_is i; trap = trap }) })
          ∙ sym (ap (λ q. q.0) fails);
      state = sym (ap (λ q. q.1) fails);
      history = ap (λ (z : SharedData). z.history) new_is;
    }

-- ---- questions for published work

work_by : (U : Type 0) (m : Module) (n line : ℕ) (sh new : SharedData) (s s' : ThreadData) (r : Result ThreadState Trap) (trap : Trap) → given_work m (thread_seen m s) sh.slot ≡ r → IsThread m s → IsAnswered {U = U} m s s' r (Err trap) →
    new ≡ record sh { trapped = Some (record { thread = n; line = line; trap = trap }) } → line ≡ line_at m (thread_seen m s) → Makes m n sh new s s' AsksForWork
work_by U m n line sh new s s' (Ok u) trap e is h new_is line_is = absurd h
work_by U m n line sh new s s' (Err x) trap e is h new_is line_is =
    let does = e ∙ ap Err h.0 in
    let fails : made m (shared_seen sh) n (thread_seen m s) AsksForWork ≡ (record (shared_seen sh) { trapped = Some (record { thread = n; line = line_at m (thread_seen m s); trap = trap }) }, thread_seen m s) =
    ap (by_work m (shared_seen sh) n (thread_seen m s)) does in
    record {
      thread = subst (IsThread m) (sym h.1) is;
      shared = ap shared_seen new_is ∙ (λ i. record (shared_seen sh) { trapped = Some (record { thread = n; line = line_is i; trap = trap }) }) ∙ sym (ap (λ q. q.0) fails);
      state = ap (thread_seen m) h.1 ∙ sym (ap (λ q. q.1) fails);
      history = ap (λ (z : SharedData). z.history) new_is;
    }

-- the answer to a question has trapped
pub no_work : (U : Type 0) (m : Module) (n line : ℕ) (sh new : SharedData) (s s' : ThreadData) (trap : Trap) → IsThread m s → IsAnswered {U = U} m s s' (given_work m (thread_seen m s) sh.slot) (Err trap) →
    new ≡ record sh { trapped = Some (record { thread = n; line = line; trap = trap }) } → line ≡ line_at m (thread_seen m s) → Makes m n sh new s s' AsksForWork
no_work U m n line sh new s s' trap is h new_is line_is = work_by U m n line sh new s s' (given_work m (thread_seen m s) sh.slot) trap refl is h new_is line_is

takes_by : {U : Type 0} (m : Module) (n : ℕ) (sh : SharedData) (s s' : ThreadData) (r : Result ThreadState Trap) (done : U) → given_work m (thread_seen m s) sh.slot ≡ r → IsAnswered m s s' r (Ok done) → Makes m n sh sh s s' AsksForWork
takes_by m n sh s s' (Err x) done e h = absurd h
takes_by m n sh s s' (Ok u) done e h =
    let goes = ap (by_work m (shared_seen sh) n (thread_seen m s)) e in
    record { thread = h.0; shared = sym (ap (λ q. q.0) goes); state = h.1 ∙ sym (ap (λ q. q.1) goes); history = refl }

-- the question is answered
pub has_work : {U : Type 0} (m : Module) (n : ℕ) (sh : SharedData) (s s' : ThreadData) (done : U) → IsAnswered m s s' (given_work m (thread_seen m s) sh.slot) (Ok done) → Makes m n sh sh s s' AsksForWork
has_work m n sh s s' done h = takes_by m n sh s s' (given_work m (thread_seen m s) sh.slot) done refl h

-- ---- atomic changes

-- an access that may write may read too
may_read : (h : Option Header) (offset : ℤ) (count o : ℕ) → access h offset count true ≡ Ok o → access h offset count false ≡ Ok o
may_read None offset count o e = let f : ⊥ = cc in absurd f
may_read (Some header) offset count o e = by_parts header.released header.constant (inside header.size offset count) e
  where
    by_parts : (released constant : Bool) (r : Result ℕ Trap) → unless released Released (then_unless r (true && constant) Constant) ≡ Ok o → unless released Released (then_unless r (false && constant) Constant) ≡ Ok o
    by_parts true constant r e = let f : ⊥ = cc in absurd f
    by_parts false true (Ok x) e = let f : ⊥ = cc in absurd f
    by_parts false true (Err x) e = let f : ⊥ = cc in absurd f
    by_parts false false (Ok x) e = e
    by_parts false false (Err x) e = e

module _ (m : Memory) (cell : Cell) (change : ℕ → ℕ) where
  -- what an access that may write is, once it is tested
  reach_err : (block : BlockName) (given : Word) (r : Result ℕ Trap) (e : Trap) → Err e ≡ only_trap (store_to m block cell (Shares given) r) → update_at m block cell change r ≡ Err e
  reach_err block given (Err x) e h = let same : x ≡ e = cc in ap Err same
  reach_err block given (Ok o) e h = let f : ⊥ = cc in absurd f

  pub update_refused : (at : Ptr) (given : Word) (e : Trap) → Err e ≡ only_trap (Store m at cell (Shares given)) → Update m at cell change ≡ Err e
  update_refused (Number n) given e h = let same : NoBlock ≡ e = cc in ap Err same
  update_refused (At block offset) given e h = reach_err block given (access (fin.get m.blocks block) offset (cell_size cell) true) e h

  reach_ok : (block : BlockName) (given : Word) (r : Result ℕ Trap) → Ok tt ≡ only_trap (store_to m block cell (Shares given) r) → (o : ℕ) × (r ≡ Ok o)
  reach_ok block given (Err x) h = let f : ⊥ = cc in absurd f
  reach_ok block given (Ok o) h = (o, refl)

  -- where the access goes
  record Reached (at : Ptr) (given : Word) : Type 0 where
    pub block : BlockName
    pub offset : ℕ
    pub loads : Load m at cell ≡ word_in cell (bytes_at m block offset (cell_size cell))
    pub updates : Update m at cell change ≡ update_number m block cell offset change (word_in cell (bytes_at m block offset (cell_size cell)))
    pub stores : (word : Word) → Store m at cell (Shares word) ≡ Ok (record m { bytes = put_bytes m.bytes block offset (word_bytes cell word) })

  reached : (at : Ptr) (given : Word) → Ok tt ≡ only_trap (Store m at cell (Shares given)) → Reached at given
  reached (Number n) given h = let f : ⊥ = cc in absurd f
  reached (At block offset) given h =
      let p = reach_ok block given (access (fin.get m.blocks block) offset (cell_size cell) true) h in
      record {
        block = block;
        offset = p.0;
        loads = ap (load_from m block cell) (may_read (fin.get m.blocks block) offset (cell_size cell) p.0 p.1);
        updates = ap (update_at m block cell change) p.1;
        stores = λ word. ap (store_to m block cell (Shares word)) p.1;
      }

  pub update_unread : (at : Ptr) (given : Word) (e : Trap) → Ok tt ≡ only_trap (Store m at cell (Shares given)) → Load m at cell ≡ Err e → Update m at cell change ≡ Err e
  update_unread at given e h l = let r = reached at given h in r.updates ∙ ap (update_number m r.block cell r.offset change) (sym r.loads ∙ l)

  pub update_no_number : (at : Ptr) (given : Word) (p : Ptr) → Ok tt ≡ only_trap (Store m at cell (Shares given)) → Load m at cell ≡ Ok (Address p) → Update m at cell change ≡ Err NotNumber
  update_no_number at given p h l = let r = reached at given h in r.updates ∙ ap (update_number m r.block cell r.offset change) (sym r.loads ∙ l)

  pub update_goes : (at : Ptr) (given : Word) (n : ℕ) → Ok tt ≡ only_trap (Store m at cell (Shares given)) → Load m at cell ≡ Ok (Int n) → (new : Memory) × (Store m at cell (Shares (Int (change n))) ≡ Ok new) × (Update m at cell change ≡ Ok (record { memory = new; old = n }))
  update_goes at given n h l =
      let r = reached at given h in (record m { bytes = put_bytes m.bytes r.block r.offset (word_bytes cell (Int (change n))) }, r.stores (Int (change n)), r.updates ∙ ap (update_number m r.block cell r.offset change) (sym r.loads ∙ l))

pub updated_trap : (r : Result Updated Trap) (old new : Memory) (e : Trap) (result : Result ℕ Trap) → r ≡ Err e → new ≡ old → result ≡ Err e → IsUpdated r old new result
updated_trap r old new e result is same result_is = subst (λ x. IsUpdated x old new result) (sym is) (result_is, same)

-- ---- which event an action is

pub not_pending : {A : Type 0} (r : Result A Trap) (go : A → ThreadState) (e : Event) → with_found r (λ a. Local (go a)) ≡ Pending e → ⊥
not_pending (Err x) go e h = let f : ⊥ = cc in f
not_pending (Ok a) go e h = let f : ⊥ = cc in f

not_changing : (r : Result Word Trap) (store : ℕ → Result (List Byte) Trap) (go : Word → List Byte → ThreadState) (e : Event) → with_found r (λ word. with_number word (λ old. with_found (store old) (λ bytes. Local (go word bytes)))) ≡ Pending e → ⊥
not_changing (Err x) store go e h = let f : ⊥ = cc in f
not_changing (Ok (Address p)) store go e h = let f : ⊥ = cc in f
not_changing (Ok (Int n)) store go e h = not_pending (store n) (go (Int n)) e h

event_of : Event → NextStep → Event
event_of d (Pending e) = e
event_of d _ = d

pending_same : (d e : Event) → Pending d ≡ Pending e → d ≡ e
unfolding event_of
pending_same d e h = ap (event_of d) h

pub load_event : (t : ThreadState) (f : Frame) (rest : List Frame) (x : Option Name) (cell : Cell) (at : Ptr) (e : Event) → loads t f rest x cell (where_is at) ≡ Pending e → Does (Loads at cell) ≡ e
load_event t f rest x cell (Number n) e h = pending_same _ e h
load_event t f rest x cell (At (Arg n) o) e h = pending_same _ e h
load_event t f rest x cell (At (Global n) o) e h = pending_same _ e h
load_event t f rest x cell (At (Heap n) o) e h = pending_same _ e h
load_event t f rest x cell (At (Stack k n) o) e h = absurd (not_pending _ _ e h)
load_event t f rest x cell (At Captures o) e h = pending_same _ e h
load_event t f rest x cell (At (Code n) o) e h = pending_same _ e h

pub store_event : (t : ThreadState) (f : Frame) (rest : List Frame) (cell : Cell) (word : Word) (at : Ptr) (e : Event) → stores t f rest cell word (where_is at) ≡ Pending e → Does (Stores at cell (given_of word)) ≡ e
store_event t f rest cell word (Number n) e h = pending_same _ e h
store_event t f rest cell word (At (Arg n) o) e h = pending_same _ e h
store_event t f rest cell word (At (Global n) o) e h = pending_same _ e h
store_event t f rest cell word (At (Heap n) o) e h = pending_same _ e h
store_event t f rest cell word (At (Stack k n) o) e h = absurd (not_pending _ _ e h)
store_event t f rest cell word (At Captures o) e h = pending_same _ e h
store_event t f rest cell word (At (Code n) o) e h = pending_same _ e h

pub update_event : (t : ThreadState) (f : Frame) (rest : List Frame) (x : Option Name) (width : ℕ) (op : RmwOp) (n : ℕ) (at : Ptr) (e : Event) → updates t f rest x width op n (where_is at) ≡ Pending e → Does (Updates at width op n) ≡ e
update_event t f rest x width op n (Number k) e h = pending_same _ e h
update_event t f rest x width op n (At (Arg k) o) e h = pending_same _ e h
update_event t f rest x width op n (At (Global k) o) e h = pending_same _ e h
update_event t f rest x width op n (At (Heap k) o) e h = pending_same _ e h
update_event t f rest x width op n (At (Stack j k) o) e h = absurd
    (not_changing (load_own (find_in (f ∷ rest) (j, k)) o (IntCell width)) (λ old. store_own (find_in (f ∷ rest) (j, k)) o (IntCell width) (Int (updated op width old n))) (λ word bytes. with_frames t (put_in (j, k) bytes (record f { code = code_on f.code x word } ∷ rest))) e h)
update_event t f rest x width op n (At Captures o) e h = pending_same _ e h
update_event t f rest x width op n (At (Code k) o) e h = pending_same _ e h

pub deinit_event : (e : Event) → Pending Deinit ≡ Pending e → Deinit ≡ e
deinit_event e h = pending_same Deinit e h

pub arrives_event : (kind : Barrier) (phase : Option Phase) (e : Event) → Pending (Arrives kind phase) ≡ Pending e → Arrives kind phase ≡ e
arrives_event kind phase e h = pending_same (Arrives kind phase) e h

pub asks_event : (e : Event) → Pending AsksForWork ≡ Pending e → AsksForWork ≡ e
asks_event e h = pending_same AsksForWork e h

pub prints_event : (n : ℕ) (e : Event) → Pending (Does (Prints n)) ≡ Pending e → Does (Prints n) ≡ e
prints_event n e h = pending_same (Does (Prints n)) e h

pub makes_event : (size : ℕ) (e : Event) → Pending (Does (MakesBlock size)) ≡ Pending e → Does (MakesBlock size) ≡ e
makes_event size e h = pending_same (Does (MakesBlock size)) e h

pub release_event : (size : ℕ) (at : Ptr) (e : Event) → releases size (where_is at) ≡ Pending e → Does (Releases at size) ≡ e
release_event size (Number n) e h = pending_same _ e h
release_event size (At (Arg n) o) e h = pending_same _ e h
release_event size (At (Global n) o) e h = pending_same _ e h
release_event size (At (Heap n) o) e h = pending_same _ e h
release_event size (At (Stack k n) o) e h = let f : ⊥ = cc in absurd f
release_event size (At Captures o) e h = pending_same _ e h
release_event size (At (Code n) o) e h = pending_same _ e h

pub pending_of : (nx : NextStep) → IsPending nx → (e : Event) × (nx ≡ Pending e)
pending_of (Local u) p = absurd p
pending_of (Pending e) p = (e, refl)
pending_of Done p = absurd p
pending_of (Trapped x) p = absurd p

pub no_trap : (nx : NextStep) (x : Trap) → IsPending nx → Trapped x ≡ nx → ⊥
no_trap nx x p h = subst IsPending (sym h) p

-- ---- the step of a team

pub set_same : {A : Type 0} (xs : List A) (n : ℕ) (x : A) → slice_get xs n ≡ Some x → slice_set xs n x ≡ xs
set_same [] n x e = refl
set_same (y ∷ ys) zero x e = ap (λ z. z ∷ ys) (sym (some_injective e))
set_same (y ∷ ys) (suc n) x e = ap (λ zs. y ∷ zs) (set_same ys n x e)

abbrev with_made : Team → ℕ → TeamShared × ThreadState → Team
with_made team n p = record { shared = p.0; threads = slice_set team.threads n p.1 }

acts_is : (m : Module) (team : Team) (n : ℕ) (t : ThreadState) (r : Result Effect Trap) → slice_get team.threads n ≡ Some t → acts m team n t r ≡ with_made team n (by_effect m team.shared n t r)
acts_is m team n t (Err trap) there = λ i. record { shared = (by_effect m team.shared n t (Err trap)).0; threads = sym (set_same team.threads n t there) i }
acts_is m team n t (Ok effect) there = refl

takes_is : (m : Module) (team : Team) (n : ℕ) (t : ThreadState) (r : Result ThreadState Trap) → slice_get team.threads n ≡ Some t → takes_work m team n t r ≡ with_made team n (by_work m team.shared n t r)
takes_is m team n t (Err trap) there = λ i. record { shared = (by_work m team.shared n t (Err trap)).0; threads = sym (set_same team.threads n t there) i }
takes_is m team n t (Ok u) there = refl

happens_is : (m : Module) (team : Team) (n : ℕ) (t : ThreadState) (e : Event) → slice_get team.threads n ≡ Some t → happens m team n t e ≡ with_made team n (made m team.shared n t e)
happens_is m team n t (Does action) there = acts_is m team n t (Do action team.shared.common) there
happens_is m team n t Deinit there = refl
happens_is m team n t (Forks function wrapper ps) there = refl
happens_is m team n t (Arrives kind phase) there = refl
happens_is m team n t AsksForWork there = takes_is m team n t (given_work m t team.shared.slot) there
happens_is m team n t Leaves there = λ i. record { shared = record team.shared { stands = opened TeamBarrier 0 (slice_set team.shared.stands n Gone) }; threads = sym (set_same team.threads n t there) i }

pub team_step : (m : Module) (n : ℕ) (sh sh' : TeamShared) (t t' : ThreadState) (e : Event) → Next m t ≡ Pending e → sh.trapped ≡ None → slice_get sh.stands n ≡ Some Runs → sh' ≡ (made m sh n t e).0 → t' ≡ (made m sh n t e).1 →
    (team : Team) → team.shared ≡ sh → slice_get team.threads n ≡ Some t → TeamStep m team n ≡ Some (record { shared = sh'; threads = slice_set team.threads n t' })
team_step m n sh sh' t t' e next none runs shared state team is there =
    ap (λ (s : TeamShared). unless_trapped s.trapped (by_stand m team n (slice_get s.stands n))) is
    ∙ (λ i. unless_trapped (none i) (by_stand m team n (runs i)))
    ∙ ap (by_thread m team n) there
    ∙ ap (by_next m team n t) next
    ∙ ap Some (happens_is m team n t e there ∙ (λ i. with_made team n (made m (is i) n t e)) ∙ (λ i. record { shared = sym shared i; threads = slice_set team.threads n (sym state i) }))

-- ---- what a call that may want memory has made

pub made_ok : {U E : Type 0} (m : Module) (n : ℕ) (sh sh' : SharedData) (s s' : ThreadData) (e : Event) (r : Result U E) {u : U} → r ≡ Ok u → IsMadeOrSame m n sh sh' s s' e r → Makes m n sh sh' s s' e
made_ok m n sh sh' s s' e r is h = subst (IsMadeOrSame m n sh sh' s s' e) is h

pub made_err : {U E : Type 0} (m : Module) (n : ℕ) (sh sh' : SharedData) (s s' : ThreadData) (e : Event) (r : Result U E) (x : E) → r ≡ Err x → IsMadeOrSame m n sh sh' s s' e r → (sh' ≡ sh) × (s' ≡ s)
made_err m n sh sh' s s' e r x is h = subst (IsMadeOrSame m n sh sh' s s' e) is h
