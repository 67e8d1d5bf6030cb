-- Regions: how a fork's words are read, and what a region function begins on.
use Rattle.std.proofs.Common.{◌≡◌, ℕ, zero, suc, ◌+◌, ◌*◌, ℤ, pos, List, [], ◌∷◌, ◌++◌, Bool, true, false, cond, ◌&&◌, Option, Some, None, Result, Ok, Err, refl, sym, ap, ◌∙◌, arith}
use Rattle.std.specs.Prelude.{◌+ℤ◌, ◌==◌, if◌then◌else◌}
use Rattle.std.proofs.lemmas.Bool.{and_parts, eq-eqb, eqb-true, false_from_ne_true}
use Rattle.std.proofs.lemmas.Int.{ints}
use Rattle.ir_core.specs.declared.module.Module.{Module}
use Rattle.ir_core.specs.Places.{inst_at}
use Rattle.shapes.specs.Walk.{Form, Bits}
use Rattle.mem_model.specs.declared.memory.BlockName.{BlockName}
use Rattle.mem_model.specs.declared.memory.Ptr.{Ptr}
use Rattle.mem_model.specs.declared.memory.Ptr.TheVariants.{At}
use Rattle.mem_model.specs.declared.memory.Byte.{Byte}
use Rattle.mem_model.specs.declared.memory.Word.{Word}
use Rattle.mem_model.specs.declared.memory.Word.TheVariants.{Int, Ptr as Address}
use Rattle.mem_model.specs.declared.memory.Cell.TheVariants.{Int as IntCell, Ptr as PtrCell}
use Rattle.mem_model.specs.declared.phase.Phase.TheVariants.{Begins, Gathered, InRegion}
use Rattle.mem_model.specs.declared.step.Barrier.TheVariants.{Explicit, Team}
use Rattle.mem_model.specs.declared.step.Trap.{Trap}
use Rattle.mem_model.specs.declared.step.Trap.TheVariants.{NotStack, StackLeak, NotNumber}
use Rattle.mem_model.specs.Words.{number_bytes}
use Rattle.mem_model.specs.Thread.{Frame, ThreadState, Spot, InStack, where_is, same_spot, or_else, find_in, load_own}
use Rattle.mem_model.specs.Values.{and_then}
use Rattle.mem_model.specs.Regions.{Fork, fork_of, words_operand, shared_at, shared_word, words_in, words_at, captured, formed_word, formed, formed_by, words_formed, in_region}
use Rattle.mem_model.specs.Entries.{forks, meets}
use Rattle.mem_model.specs.Next.{NextStep, Local, Pending, Forks, Arrives, Trapped, with_found, with_result, goes_past, in_phase, next_call, back_in, next_inst, enters_region, enters_at, next_in, next_frames, Next}
use Rattle.mem_laws.specs.RegionLaws.{ReadsWords, NotStackTraps, NoneIsRead, LeakBeforeLater, AddressUnderWidth, EntryTraps, ForkTellsWords, BarrierOutside, RegionBlocks, RegionReturns}
use Rattle.mem_model.proofs.WordLaws.{word_back}
use Rattle.mem_laws.proofs.StepLaws.{next_is}

-- ---- the step at a fork

-- what a thread does with the captured words: it enters the region function, or tells them
abbrev goes_with : Module → ThreadState → Frame → List Frame → Fork → Bool → List Ptr → NextStep
goes_with m t f rest fork true ps = with_found (words_formed m fork.wrapper ps) (λ ws. Local (in_region m t (in_phase InRegion f ∷ rest) fork.function ws))
goes_with m t f rest fork false ps = Pending (Forks fork.function fork.wrapper ps)

abbrev tells : Fork → List Ptr → NextStep
tells fork ps = Pending (Forks fork.function fork.wrapper ps)

module _ (m : Module) (t : ThreadState) (f : Frame) (rest : List Frame) (words : List Word) (fork : Fork) (r : ReadsWords m t f rest words fork) where
  reads : (b : Bool) → t.enters ≡ b → Next m t ≡ with_found (captured (f ∷ rest) (words_operand words) fork.count) (goes_with m t f rest fork b)
  reads true e =
      ap (next_frames m t) r.calls
      ∙ ap (next_in m t f rest (inst_at m f.code.at)) (r.phase ∙ ap (λ b. if b then Gathered else Begins) e)
      ∙ ap (enters_at m t f rest) r.inst
      ∙ ap (λ found. with_found found (λ words. with_result (fork_of m r.operands) (enters_region m t f rest words))) r.found
      ∙ ap (λ o. with_result o (enters_region m t f rest words)) r.names
  reads false e =
      ap (next_frames m t) r.calls
      ∙ ap (next_in m t f rest (inst_at m f.code.at)) (r.phase ∙ ap (λ b. if b then Gathered else Begins) e)
      ∙ ap (next_inst m t f rest) r.inst
      ∙ ap (next_call m t f rest r.result r.operands) r.is_fork
      ∙ ap (λ found. with_found found (λ words. with_result (fork_of m r.operands) (forks t f rest words))) r.found
      ∙ ap (λ o. with_result o (forks t f rest words)) r.names
      ∙ ap (λ b. if b then Pending (Arrives Team (Some Gathered)) else with_found (captured (f ∷ rest) (words_operand words) fork.count) (tells fork)) e

  -- where the words trap, the fork does
  fork_traps : (trap : Trap) → captured (f ∷ rest) (words_operand words) fork.count ≡ Err trap → Next m t ≡ Trapped trap
  fork_traps trap e = reads t.enters refl ∙ ap (λ found. with_found found (goes_with m t f rest fork t.enters)) e

is_not_zero : (n : ℕ) → (suc n == 0) ≡ false
is_not_zero n = false_from_ne_true (suc n == 0) (λ e. let q = eqb-true (suc n) 0 e in omega arith)

pub not_stack_traps : NotStackTraps
not_stack_traps m t f rest words fork n p q r count operand place =
    fork_traps m t f rest words fork r NotStack (
    ap (captured (f ∷ rest) (words_operand words)) count
    ∙ ap (λ o. captured (f ∷ rest) o (suc n)) operand
    ∙ ap (λ w. words_at (f ∷ rest) w (suc n)) place
    ∙ ap (λ b. if b then Ok [] else Err NotStack) (is_not_zero n)
    )

pub fork_tells_words : ForkTellsWords
fork_tells_words m t f rest words fork ps r enters e = reads m t f rest words fork r false enters ∙ ap (λ found. with_found found (tells fork)) e

pub none_is_read : NoneIsRead
none_is_read m t f rest words fork r count enters = fork_tells_words m t f rest words fork [] r enters (ap (captured (f ∷ rest) (words_operand words)) count)

-- ---- a stack address among the words

module _ (bytes : Option (List Byte)) where
  abbrev with_later : ℤ → ℕ → Ptr → Result (List Ptr) Trap
  with_later offset n p = and_then (words_in bytes (offset +ℤ pos 8) n) (λ ps. Ok (p ∷ ps))

  module _ (offset : ℤ) (k n : ℕ) (ps : List Ptr) (next : (qs : List Ptr) → words_in bytes (offset +ℤ pos 8) k ≡ Ok qs → words_in bytes (offset +ℤ pos 8) n ≡ Err StackLeak) where
    behind_words : (p : Ptr) (r : Result (List Ptr) Trap) → words_in bytes (offset +ℤ pos 8) k ≡ r → and_then r (λ ps. Ok (p ∷ ps)) ≡ Ok ps → with_later offset n p ≡ Err StackLeak
    behind_words p (Err e) is h = let f : ⊥ = cc in absurd f
    behind_words p (Ok qs) is h = ap (λ r. and_then r (λ ps. Ok (p ∷ ps))) (next qs is)

    behind_shared : (r : Result Ptr Trap) → and_then r (with_later offset k) ≡ Ok ps → and_then r (with_later offset n) ≡ Err StackLeak
    behind_shared (Err e) h = let f : ⊥ = cc in absurd f
    behind_shared (Ok p) h = behind_words p (words_in bytes (offset +ℤ pos 8) k) refl h

    behind_word : (r : Result Word Trap) → and_then r (λ word. and_then (shared_word word) (with_later offset k)) ≡ Ok ps → and_then r (λ word. and_then (shared_word word) (with_later offset n)) ≡ Err StackLeak
    behind_word (Err e) h = let f : ⊥ = cc in absurd f
    behind_word (Ok word) h = behind_shared (shared_word word) h

  leaks_at : (q : Ptr) (leaked : Spot) (inner : ℤ) → where_is q ≡ InStack leaked inner → (k n count : ℕ) (offset : ℤ) (ps : List Ptr) → count ≡ k + suc n → words_in bytes offset k ≡ Ok ps → load_own bytes (offset +ℤ pos (8 * k)) PtrCell ≡ Ok (Address q) → words_in bytes offset count ≡ Err StackLeak
  leaks_at q leaked inner place k n zero offset ps sum good is = absurd (omega arith)
  leaks_at q leaked inner place zero n (suc count) offset ps sum good is =
      let at : offset ≡ offset +ℤ pos (8 * 0) = omega (arith, ints) in
      ap (λ o. and_then (load_own bytes o PtrCell) (λ word. and_then (shared_word word) (with_later offset count))) at
      ∙ ap (λ r. and_then r (λ word. and_then (shared_word word) (with_later offset count))) is
      ∙ ap (λ w. and_then (shared_at q w) (with_later offset count)) place
  leaks_at q leaked inner place (suc k) n (suc count) offset ps sum good is =
      let at : (offset +ℤ pos 8) +ℤ pos (8 * k) ≡ offset +ℤ pos (8 * suc k) = omega (arith, ints) in
      behind_word offset k count ps (λ qs e. leaks_at q leaked inner place k n count (offset +ℤ pos 8) qs (omega arith) e (ap (λ o. load_own bytes o PtrCell) at ∙ is)) (load_own bytes offset PtrCell) good

pub leak_before_later : LeakBeforeLater
leak_before_later m t f rest words fork k n p q ps spot leaked offset inner r count operand place good is at =
    let more : k + suc n ≡ suc (k + n) = omega arith in
    fork_traps m t f rest words fork r StackLeak (
    ap (captured (f ∷ rest) (words_operand words)) (count ∙ more)
    ∙ ap (λ o. captured (f ∷ rest) o (suc (k + n))) operand
    ∙ ap (λ w. words_at (f ∷ rest) w (suc (k + n))) place
    ∙ leaks_at (find_in (f ∷ rest) spot) q leaked inner at k n (suc (k + n)) offset ps (sym more) good is
    )

-- ---- words in their forms

abbrev with_word : List Form → List Ptr → Word → Result (List Word) Trap
with_word fs ps word = and_then (formed fs ps) (λ words. Ok (word ∷ words))

-- where the first words have their forms and the rest traps, all trap
module _ (fs gs : List Form) (ps qs : List Ptr) (words : List Word) (trap : Trap) (next : (vs : List Word) → formed fs ps ≡ Ok vs → formed gs qs ≡ Err trap) where
  behind_forms : (word : Word) (r : Result (List Word) Trap) → formed fs ps ≡ r → and_then r (λ words. Ok (word ∷ words)) ≡ Ok words → with_word gs qs word ≡ Err trap
  behind_forms word (Err e) is h = let f : ⊥ = cc in absurd f
  behind_forms word (Ok vs) is h = ap (λ r. and_then r (λ words. Ok (word ∷ words))) (next vs is)

  behind_form : (r : Result Word Trap) → and_then r (with_word fs ps) ≡ Ok words → and_then r (with_word gs qs) ≡ Err trap
  behind_form (Err e) h = let f : ⊥ = cc in absurd f
  behind_form (Ok word) h = behind_forms word (formed fs ps) refl h

under_width : (width : ℕ) (behind : List Form) (block : BlockName) (offset : ℤ) (qs : List Ptr) (before : List Form) (ps : List Ptr) (words : List Word) → formed before ps ≡ Ok words → formed (before ++ Bits width ∷ behind) (ps ++ At block offset ∷ qs) ≡ Err NotNumber
under_width width behind block offset qs [] [] words h = refl
under_width width behind block offset qs [] (p ∷ ps) words h = let f : ⊥ = cc in absurd f
under_width width behind block offset qs (g ∷ gs) [] words h = let f : ⊥ = cc in absurd f
under_width width behind block offset qs (g ∷ gs) (p ∷ ps) words h =
    behind_form gs (gs ++ Bits width ∷ behind) ps (ps ++ At block offset ∷ qs) words NotNumber (under_width width behind block offset qs gs ps) (formed_word g p) h

pub address_under_width : AddressUnderWidth
address_under_width m wrapper width before behind ps qs block offset words forms h =
    ap (λ o. formed_by o (ps ++ At block offset ∷ qs)) forms ∙ under_width width behind block offset qs before ps words h

pub entry_traps : EntryTraps
entry_traps m t f rest words fork width before behind ps qs block offset formed_words r enters e forms h =
    reads m t f rest words fork r true enters
    ∙ ap (λ found. with_found found (goes_with m t f rest fork true)) e
    ∙ ap (λ found. with_found found (λ ws. Local (in_region m t (in_phase InRegion f ∷ rest) fork.function ws))) (address_under_width m fork.wrapper width before behind ps qs block offset formed_words forms h)

-- ---- in a region and out of it

pub barrier_outside : BarrierOutside
barrier_outside m t f rest result tail_word ret callee operands words s is found level =
    next_is m t f rest result _ s
    ∙ ap (next_call m t f rest result operands) is
    ∙ ap (λ r. with_found r (λ words. meets t f rest)) found
    ∙ ap (λ n. if n == 0 then Local (goes_past t f rest) else Pending (Arrives Explicit None)) level

same_self : (own n : ℕ) → same_spot (own, n) (own, n) ≡ true
same_self own n = ap (λ b. b && n == n) (eq-eqb own own refl) ∙ eq-eqb n n refl

not_next : (own n : ℕ) → same_spot (own, n) (own, n + 1) ≡ false
not_next own n = false_from_ne_true (same_spot (own, n) (own, n + 1)) (λ e. let q = eqb-true n (n + 1) (and_parts (own == own) (n == n + 1) e).1 in omega arith)

pub region_blocks : RegionBlocks
region_blocks m t below function words low = (
  ap (λ b. load_own (or_else (cond b (Some zero_bytes) (cond (same_spot (t.own, t.counter) (t.own, t.counter)) (Some own_bytes) None)) (find_in below (t.own, t.counter))) (pos 0) (IntCell 32)) (not_next t.own t.counter)
      ∙ ap (λ b. load_own (or_else (cond b (Some own_bytes) None) (find_in below (t.own, t.counter))) (pos 0) (IntCell 32)) (same_self t.own t.counter)
      ∙ word_back (IntCell 32) (Int t.own) low,
  ap (λ b. load_own (or_else (cond b (Some zero_bytes) (cond (same_spot (t.own, t.counter + 1) (t.own, t.counter)) (Some own_bytes) None)) (find_in below (t.own, t.counter + 1))) (pos 0) (IntCell 32)) (same_self t.own (t.counter + 1)),
)
  where
    zero_bytes : List Byte
    zero_bytes = number_bytes 4 0

    own_bytes : List Byte
    own_bytes = number_bytes 4 t.own

pub region_returns : RegionReturns
region_returns m t g f rest result s phase = next_is m t g (f ∷ rest) result _ s ∙ ap (λ p. Local (back_in p t f rest g.code.back None)) phase
