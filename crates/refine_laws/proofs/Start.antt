-- The first states are tied.
use Rattle.std.proofs.Common.{◌≡◌, ℕ, zero, suc, ◌+◌, ◌*◌, List, [], ◌∷◌, ◌++◌, length, map, replicate, true, false, Option, Some, None, refl, sym, ap, ◌∙◌, subst, arith}
use Rattle.std.specs.Prelude.{slice_get, option_map}
use Rattle.std.specs.FinMap as fin
use Rattle.std.specs.FinMap.{get-insert, get-empty}
use Rattle.std.specs.List.{list_all}
use Rattle.std.proofs.lemmas.Option.{slice_get-map}
use Rattle.std.proofs.Math.Nat.{mul-add}
use Rattle.ir_core.specs.declared.module.Module.{Module}
use Rattle.ir_core.specs.declared.module.Global.{Global}
use Rattle.ir_core.specs.MachineOff.{machine_off}
use Rattle.mem_model.specs.declared.launch.Launch.{Launch}
use Rattle.mem_model.specs.declared.launch.Arg.{Arg}
use Rattle.mem_model.specs.declared.launch.Arg.TheVariants.{Buffer, Int as IntArg, Null}
use Rattle.mem_model.specs.declared.memory.BlockName.TheVariants.{Arg as ArgBlock, Global as GlobalBlock, Captures}
use Rattle.mem_model.specs.declared.memory.Byte.TheVariants.{Num}
use Rattle.mem_model.specs.Blocks.{block_cmp}
use Rattle.mem_model.specs.Memory.{Memory, no_blocks}
use Rattle.mem_model.specs.Thread.{ThreadState}
use Rattle.ir_core.specs.Places.{function_place}
use Rattle.mem_model.specs.Globals.{contents, with_globals}
use Rattle.mem_model.specs.Launching.{thread_at, with_buffer, with_buffers, first_memory}
use Rattle.mem_model.proofs.Orders.{block_total}
use Rattle.mem_model.proofs.Runs.{none_is_not_some, some_injective}
use Rattle.source_model.specs.Source.{region_threads, source_start, has_returned}
use Rattle.team_model.specs.Team.{is_spmd, answers_at, minus_one, role, worker, main_thread, threads_from, first_threads, with_captures, runs_at_first, started, team_start}
use Rattle.refine_laws.proofs.QuietSteps.{RunsUser}
use Rattle.refine_laws.proofs.SameNext.{first_memory_same, first_thread_same, spmd_same}
use Rattle.refine_laws.proofs.AlikeMemory.{Alike, captures_alike}
use Rattle.refine_laws.proofs.ListPlaces.{total_of}
use Rattle.refine_laws.proofs.WayOut.{WayOut, steps_left, worker_stand, runs_until}
use Rattle.refine_laws.proofs.Relation.{is_free, Tied}

-- ---- the first memory has no capture area

abbrev Lacks : Memory → Type 0
Lacks m = fin.get m.blocks Captures ≡ None

buffer_lacks : (i : ℕ) (a : Arg) (m : Memory) → Lacks m → Lacks (with_buffer i a m)
buffer_lacks i (Buffer bytes) m h = get-insert block_total m.blocks (ArgBlock i) (record { size = length (map Num bytes); constant = false; released = false }) Captures ∙ h
buffer_lacks i (IntArg n) m h = h
buffer_lacks i Null m h = h

buffers_lack : (i : ℕ) (args : List Arg) (m : Memory) → Lacks m → Lacks (with_buffers i args m)
buffers_lack i [] m h = h
buffers_lack i (a ∷ args) m h = buffers_lack (i + 1) args (with_buffer i a m) (buffer_lacks i a m h)

globals_lack : (source : Module) (i : ℕ) (gs : List Global) (m : Memory) → Lacks m → Lacks (with_globals source i gs m)
globals_lack source i [] m h = h
globals_lack source i (g ∷ gs) m h =
    globals_lack source (i + 1) gs _ (get-insert block_total m.blocks (GlobalBlock i) (record { size = length (contents source g.ty g.init); constant = g.constant; released = false }) Captures ∙ h)

pub first_lacks : (m : Module) (l : Launch) → Lacks (first_memory m l)
first_lacks m l = globals_lack m 0 m.globals (with_buffers 0 l.args no_blocks) (buffers_lack 0 l.args no_blocks (get-empty block_cmp Captures))

-- ---- no worker has made a step

zeros : ℕ → List ℕ
zeros zero = []
zeros (suc n) = 0 ∷ zeros n

length-zeros : (n : ℕ) → length (zeros n) ≡ n
unfolding zeros
length-zeros zero = refl
length-zeros (suc n) = ap suc (length-zeros n)

total_zeros : (f : ℕ → ℕ) (n : ℕ) → total_of f (zeros n) ≡ f 0 * n
unfolding zeros total_of
total_zeros f zero = omega arith
total_zeros f (suc n) = let e = total_zeros f n in let more = mul-add (f 0) n 1 in omega arith

zero_at : (n i j : ℕ) → slice_get (zeros n) i ≡ Some j → 0 ≡ j
unfolding zeros
zero_at zero i j h = none_is_not_some h
zero_at (suc n) zero j h = some_injective h
zero_at (suc n) (suc i) j h = zero_at n i j h

all_start_free : (ts : List ThreadState) → list_all is_free (map runs_at_first ts) ≡ true
all_start_free [] = refl
all_start_free (t ∷ ts) = all_start_free ts

-- ---- the threads of the team at the start

-- a worker's state, whatever thread stands behind the workers
workers_begin : (first : ℕ → ThreadState) (x : ThreadState) (n t i j : ℕ) → slice_get (zeros n) i ≡ Some j → slice_get (threads_from first t n ++ x ∷ []) i ≡ Some (first (t + i))
unfolding zeros
workers_begin first x zero t i j h = none_is_not_some h
workers_begin first x (suc n) t zero j h = let e : t ≡ t + 0 = omega arith in ap (λ y. Some (first y)) e
workers_begin first x (suc n) t (suc i) j h = let e : t + 1 + i ≡ t + suc i = omega arith in workers_begin first x n (t + 1) i j h ∙ ap (λ y. Some (first y)) e

thread_count : (first : ℕ → ThreadState) (x : ThreadState) (n t : ℕ) → length (threads_from first t n ++ x ∷ []) ≡ suc n
thread_count first x zero t = refl
thread_count first x (suc n) t = ap suc (thread_count first x n (t + 1))

main_is_last : (first : ℕ → ThreadState) (x : ThreadState) (n t : ℕ) → slice_get (threads_from first t n ++ x ∷ []) n ≡ Some x
main_is_last first x zero t = refl
main_is_last first x (suc n) t = main_is_last first x n (t + 1)

-- no region thread has a call
all_idle : (l : Launch) (n t : ℕ) → list_all has_returned (region_threads l 0 t n) ≡ true
all_idle l zero t = refl
all_idle l (suc n) t = all_idle l n (t + 1)

module _ (m : Module) (l : Launch) (last : ℕ) (way : WayOut (machine_off m) l last) (generic : is_spmd m l ≡ false) where
  abbrev out : Module
  out = machine_off m

  abbrev first_team : List ThreadState
  first_team = first_threads out l false

  main_runs_user : (o : Option ℕ) → RunsUser (thread_at m l (role l false l.threads) (answers_at minus_one 0) o)
  main_runs_user None = (refl, tt)
  main_runs_user (Some p) = (refl, (refl, tt))

  main_at_first : slice_get first_team l.threads ≡ Some (main_thread m l)
  main_at_first = main_is_last (worker out l) (main_thread out l) l.threads 0 ∙ ap Some (first_thread_same m l (role l false l.threads) (answers_at minus_one 0))

  workers_at_first : (i j : ℕ) → slice_get (zeros l.threads) i ≡ Some j → slice_get first_team i ≡ Some (way.state i j)
  workers_at_first i j h =
      let e : 0 + i ≡ i = omega arith in
      workers_begin (worker out l) (main_thread out l) l.threads 0 i j h ∙ ap (λ x. Some (worker out l x)) e ∙ ap Some (way.begins i) ∙ ap (λ j. Some (way.state i j)) (zero_at l.threads i j h)

  all_left : suc last ≡ steps_left last 0
  all_left = omega arith

  tied_generic : Tied m l last way (source_start m l 0) (started out l first_team) (suc last * l.threads)
  tied_generic = record {
    memory = subst (λ memory. Alike (first_memory m l) (with_captures memory)) (sym (first_memory_same m l)) (captures_alike (first_memory m l) false (replicate 512 (Num 0)) (first_lacks m l));
    prints = refl;
    main = main_at_first;
    main_stand = slice_get-map runs_at_first first_team l.threads ∙ ap (option_map runs_at_first) main_at_first;
    user = main_runs_user (function_place m l.kernel);
    no_region = all_idle l l.threads 0;
    source_goes = refl;
    team_goes = refl;
    all_free = all_start_free first_team;
    count = thread_count (worker out l) (main_thread out l) l.threads 0;
    stages = zeros l.threads;
    stage_count = length-zeros l.threads;
    stage_sum = ap (λ k. k * l.threads) all_left ∙ sym (total_zeros (steps_left last) l.threads);
    workers = workers_at_first;
    worker_stands = λ i j h.
        slice_get-map runs_at_first first_team i ∙ ap (option_map runs_at_first) (workers_at_first i j h)
        ∙ sym (ap Some (runs_until last 0 (omega arith))) ∙ ap (λ j. Some (worker_stand last j)) (zero_at l.threads i j h);
  }

  pub tied_at_start : Tied m l last way (source_start m l 0) (team_start out l) (suc last * l.threads)
  tied_at_start = subst (λ spmd. Tied m l last way (source_start m l 0) (started out l (first_threads out l spmd)) (suc last * l.threads)) (sym (spmd_same m l ∙ generic)) tied_generic
