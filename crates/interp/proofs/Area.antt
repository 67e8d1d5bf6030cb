-- No event takes the capture area away.
use Rattle.std.proofs.Common.{◌≡◌, ℤ, ℕ, ◌+◌, ◌*◌, Bool, true, false, List, [], ◌∷◌, replicate, Option, Some, None, Result, Ok, Err, refl, sym, ap, ◌∙◌, subst}
use Rattle.std.specs.Prelude.{nat_le, if◌then◌else◌}
use Rattle.std.specs.FinMap as fin
use Rattle.ir_core.specs.declared.module.Module.{Module}
use Rattle.mem_model.specs.declared.launch.Launch.{Launch}
use Rattle.mem_model.specs.declared.memory.BlockName.{BlockName}
use Rattle.mem_model.specs.declared.memory.BlockName.TheVariants.{Arg, Global, Heap, Stack, Captures, Code}
use Rattle.mem_model.specs.declared.memory.Ptr.{Ptr}
use Rattle.mem_model.specs.declared.memory.Ptr.TheVariants.{Num as Number, At}
use Rattle.mem_model.specs.declared.memory.Byte.TheVariants.{Num}
use Rattle.mem_model.specs.declared.memory.Cell.{Cell}
use Rattle.mem_model.specs.declared.memory.Word.{Word}
use Rattle.mem_model.specs.declared.memory.Word.TheVariants.{Int, Ptr as Address}
use Rattle.mem_model.specs.declared.step.Trap.{Trap}
use Rattle.mem_model.specs.Memory.{Memory, Header, Given, Shares, Leaks, Load, Store, store_to, block_limit, with_block, Allocate, is_all, release_header, Release}
use Rattle.mem_model.specs.Update.{Updated, Update, update_at, update_number}
use Rattle.mem_model.specs.Values.{updated}
use Rattle.mem_model.specs.Steps.{Action, Loads, Stores, Updates, Prints, Makes, Releases, Event, Does, Deinit, Forks, Arrives, AsksForWork, Leaves}
use Rattle.mem_model.specs.Do.{Common, Effect, loaded, stored, changed, made as made_block, Do}
use Rattle.mem_model.specs.Thread.{ThreadState}
use Rattle.mem_model.specs.Work.{given_work}
use Rattle.mem_model.proofs.BlockLaws.{header_here, header_apart}
use Rattle.team_model.specs.Team.{TeamShared, published, with_captures}
use Rattle.captures.specs.Published.{IsArea, with_word}
use Rattle.interp.specs.Events.{by_effect, by_work, made}

-- ---- shared memory

abbrev OkArea : Result Memory Trap → Type 0
OkArea (Ok m) = IsArea m
OkArea (Err e) = Unit {0}

abbrev UpdatedArea : Result Updated Trap → Type 0
UpdatedArea (Ok u) = IsArea u.memory
UpdatedArea (Err e) = Unit {0}

store_keeps : (m : Memory) (block : BlockName) (cell : Cell) (given : Given) (r : Result ℕ Trap) → IsArea m → OkArea (store_to m block cell given r)
store_keeps m block cell given (Err e) area = tt
store_keeps m block cell (Shares word) (Ok offset) area = area
store_keeps m block cell Leaks (Ok offset) area = tt

stores_keep : (m : Memory) (at : Ptr) (cell : Cell) (given : Given) → IsArea m → OkArea (Store m at cell given)
stores_keep m (Number n) cell given area = tt
stores_keep m (At block offset) cell given area = store_keeps m block cell given _ area

number_keeps : (m : Memory) (block : BlockName) (cell : Cell) (offset : ℕ) (change : ℕ → ℕ) (r : Result Word Trap) → IsArea m → UpdatedArea (update_number m block cell offset change r)
number_keeps m block cell offset change (Err e) area = tt
number_keeps m block cell offset change (Ok (Address p)) area = tt
number_keeps m block cell offset change (Ok (Int n)) area = area

update_keeps : (m : Memory) (block : BlockName) (cell : Cell) (change : ℕ → ℕ) (r : Result ℕ Trap) → IsArea m → UpdatedArea (update_at m block cell change r)
update_keeps m block cell change (Err e) area = tt
update_keeps m block cell change (Ok offset) area = number_keeps m block cell offset change _ area

updates_keep : (m : Memory) (at : Ptr) (cell : Cell) (change : ℕ → ℕ) → IsArea m → UpdatedArea (Update m at cell change)
updates_keep m (Number n) cell change area = tt
updates_keep m (At block offset) cell change area = update_keeps m block cell change _ area

not_heap : (n : ℕ) → Captures ≡ Heap n → ⊥
not_heap n e = let f : ⊥ = cc in f

heap_keeps : (m : Memory) (n : ℕ) (h : Header) → IsArea m → fin.get (fin.insert m.blocks (Heap n) h) Captures ≡ Some (record { size = 512; constant = false; released = false })
heap_keeps m n h area = header_apart m.blocks (Heap n) Captures h (not_heap n) ∙ area

allocate_keeps : (m : Memory) (n size : ℕ) (b : Bool) → IsArea m → OkArea (if b then Ok (with_block m (Heap n) false (replicate size (Num 0))) else Err Trap.TooLarge)
allocate_keeps m n size true area = heap_keeps m n _ area
allocate_keeps m n size false area = tt

release_keeps : (m : Memory) (n : ℕ) (offset : ℤ) (count : ℕ) (o : Option Header) → IsArea m → OkArea (release_header m (Heap n) offset count o)
release_keeps m n offset count None area = tt
release_keeps m n offset count (Some header) area = by header.released (is_all header.size offset count)
  where
    by : (a b : Bool) → OkArea (if a then Err Trap.Released else if b then Ok (record m { blocks = fin.insert m.blocks (Heap n) (record header { released = true }) }) else Err Trap.OutOfBlock)
    by true b = tt
    by false true = heap_keeps m n (record header { released = true }) area
    by false false = tt

releases_keep : (m : Memory) (at : Ptr) (count : ℕ) → IsArea m → OkArea (Release m at count)
releases_keep m (At (Heap n) offset) count area = release_keeps m n offset count (fin.get m.blocks (Heap n)) area
releases_keep m (Number n) count area = tt
releases_keep m (At (Arg n) offset) count area = tt
releases_keep m (At (Global n) offset) count area = tt
releases_keep m (At (Stack t n) offset) count area = tt
releases_keep m (At Captures offset) count area = tt
releases_keep m (At (Code n) offset) count area = tt

-- ---- events

abbrev EffectArea : Result Effect Trap → Type 0
EffectArea (Ok e) = IsArea e.common.memory
EffectArea (Err x) = Unit {0}

loaded_keeps : (c : Common) (r : Result Word Trap) → IsArea c.memory → EffectArea (loaded c r)
loaded_keeps c (Ok word) area = area
loaded_keeps c (Err x) area = tt

stored_keeps : (c : Common) (r : Result Memory Trap) → OkArea r → EffectArea (stored c r)
stored_keeps c (Ok m) area = area
stored_keeps c (Err x) area = tt

changed_keeps : (c : Common) (r : Result Updated Trap) → UpdatedArea r → EffectArea (changed c r)
changed_keeps c (Ok u) area = area
changed_keeps c (Err x) area = tt

made_keeps : (c : Common) (r : Result Memory Trap) → OkArea r → EffectArea (made_block c r)
made_keeps c (Ok m) area = area
made_keeps c (Err x) area = tt

do_keeps : (action : Action) (c : Common) → IsArea c.memory → EffectArea (Do action c)
do_keeps (Loads at cell) c area = loaded_keeps c (Load c.memory at cell) area
do_keeps (Stores at cell given) c area = stored_keeps c (Store c.memory at cell given) (stores_keep c.memory at cell given area)
do_keeps (Updates at width op n) c area = changed_keeps c _ (updates_keep c.memory at _ (λ old. updated op width old n) area)
do_keeps (Prints n) c area = area
do_keeps (Makes size) c area = made_keeps c _ (allocate_keeps c.memory c.heaps size (nat_le size block_limit) area)
do_keeps (Releases at size) c area = stored_keeps c (Release c.memory at size) (releases_keep c.memory at size area)

effect_keeps : (m : Module) (sh : TeamShared) (n : ℕ) (t : ThreadState) (r : Result Effect Trap) → IsArea sh.common.memory → EffectArea r → IsArea (by_effect m sh n t r).0.common.memory
effect_keeps m sh n t (Err x) area kept = area
effect_keeps m sh n t (Ok e) area kept = kept

work_keeps : (m : Module) (sh : TeamShared) (n : ℕ) (t : ThreadState) (r : Result ThreadState Trap) → IsArea sh.common.memory → IsArea (by_work m sh n t r).0.common.memory
work_keeps m sh n t (Err x) area = area
work_keeps m sh n t (Ok u) area = area

published_keeps : (k : ℕ) (ps : List Ptr) (m : Memory) → IsArea m → IsArea (published k ps m)
published_keeps k [] m area = area
published_keeps k (p ∷ ps) m area = published_keeps (k + 1) ps (with_word m k p) area

pub area_kept : (m : Module) (sh : TeamShared) (n : ℕ) (t : ThreadState) (e : Event) → IsArea sh.common.memory → IsArea (made m sh n t e).0.common.memory
area_kept m sh n t (Does action) area = effect_keeps m sh n t (Do action sh.common) area (do_keeps action sh.common area)
area_kept m sh n t Deinit area = area
area_kept m sh n t (Forks function wrapper ps) area = published_keeps 0 ps sh.common.memory area
area_kept m sh n t (Arrives kind phase) area = area
area_kept m sh n t AsksForWork area = work_keeps m sh n t (given_work m t sh.slot) area
area_kept m sh n t Leaves area = area

-- ---- the start

pub first_area : (m : Memory) → IsArea (with_captures m)
first_area m = header_here m.blocks Captures _
