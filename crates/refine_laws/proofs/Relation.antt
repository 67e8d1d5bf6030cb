-- What ties a source state to a team state: the same main thread, memories that are alike, and workers on their way out.
use Rattle.std.proofs.Common.{◌≡◌, ◌≢◌, ℕ, suc, ◌+◌, ◌<◌, ◌≤◌, List, [], ◌∷◌, length, map, Bool, true, false, Option, Some, None, refl, sym, ap, ◌∙◌, subst, arith, length-set}
use Rattle.std.specs.Prelude.{slice_get, slice_set, if◌then◌else◌}
use Rattle.std.specs.List.{list_all}
use Rattle.std.proofs.lemmas.Option.{slice_get_within}
use Rattle.ir_core.specs.declared.module.Module.{Module}
use Rattle.ir_core.specs.MachineOff.{machine_off}
use Rattle.mem_model.specs.declared.launch.Launch.{Launch}
use Rattle.mem_model.specs.declared.step.Barrier.{Barrier}
use Rattle.mem_model.specs.declared.step.Barrier.TheVariants.{Team as TeamBarrier}
use Rattle.mem_model.specs.Memory.{Memory}
use Rattle.mem_model.specs.Thread.{ThreadState}
use Rattle.source_model.specs.Source.{SourceState, has_returned}
use Rattle.team_model.specs.declared.Stand.{Stand}
use Rattle.team_model.specs.declared.Stand.TheVariants.{Runs, Waits, Ended as Gone}
use Rattle.team_model.specs.Team.{Team, is_complete, goes_again, leaves}
use Rattle.refine_laws.proofs.QuietSteps.{RunsUser}
use Rattle.refine_laws.proofs.AlikeMemory.{Alike}
use Rattle.refine_laws.proofs.ListPlaces.{set_here, set_else, all_after_set, total_of, total_falls, both_set, first_set}
use Rattle.refine_laws.proofs.WayOut.{WayOut, steps_left, worker_stand, runs_until, gone_behind}

abbrev pub stand_of : Bool → Stand
stand_of true = Gone
stand_of false = Runs

-- a thread that doesn't wait
abbrev pub is_free : Stand → Bool
is_free (Waits b) = false
is_free _ = true

-- the source behind a step of its main thread
abbrev pub source_moved : SourceState → ThreadState → Memory → SourceState
source_moved s v a = record s { common = record s.common { memory = a }; main = v }

-- the team behind a step of one thread
abbrev pub team_moved : Team → ℕ → ThreadState → Memory → Option ℕ → Team
team_moved t d v b slot = record { shared = record t.shared { common = record t.shared.common { memory = b }; slot = slot }; threads = slice_set t.threads d v }

-- the team when one thread has left
abbrev pub team_left : Team → ℕ → Team
team_left t d = record t { shared = record t.shared { stands = slice_set t.shared.stands d Gone } }

-- ---- a barrier that opens where no thread waits changes nothing

goes_again_free : (kind : Barrier) (xs : List Stand) → list_all is_free xs ≡ true → map (goes_again kind) xs ≡ xs
goes_again_free kind [] free = refl
goes_again_free kind (Runs ∷ xs) free = ap (λ ys. Runs ∷ ys) (goes_again_free kind xs free)
goes_again_free kind (Gone ∷ xs) free = ap (λ ys. Gone ∷ ys) (goes_again_free kind xs free)
goes_again_free kind (Waits b ∷ xs) free = let f : ⊥ = cc in absurd f

opened_free : (kind : Barrier) (xs : List Stand) → list_all is_free xs ≡ true → (complete : Bool) → (if complete then map (goes_again kind) xs else xs) ≡ xs
opened_free kind xs free true = goes_again_free kind xs free
opened_free kind xs free false = refl

pub leaves_is : (t : Team) (d : ℕ) → list_all is_free t.shared.stands ≡ true → team_left t d ≡ leaves t d
leaves_is t d free =
    let stands = slice_set t.shared.stands d Gone in
    ap (λ stands. record t { shared = record t.shared { stands = stands } }) (sym (opened_free TeamBarrier stands (all_after_set is_free t.shared.stands d Gone refl free) (is_complete TeamBarrier 0 stands)))

module _ (m : Module) (l : Launch) (last : ℕ) (way : WayOut (machine_off m) l last) where
  pub record Tied (s : SourceState) (t : Team) (n : ℕ) : Type 0 where
    pub memory : Alike s.common.memory t.shared.common.memory
    pub prints : t.shared.common.prints ≡ s.common.prints
    pub main : slice_get t.threads l.threads ≡ Some s.main
    pub main_stand : slice_get t.shared.stands l.threads ≡ Some (stand_of s.returned)
    pub user : RunsUser s.main
    pub no_region : list_all has_returned s.region ≡ true
    pub source_goes : s.trapped ≡ None
    pub team_goes : t.shared.trapped ≡ None
    pub all_free : list_all is_free t.shared.stands ≡ true
    pub count : length t.threads ≡ suc l.threads
    -- how far each worker has come
    pub stages : List ℕ
    pub stage_count : length stages ≡ l.threads
    pub stage_sum : n ≡ total_of (steps_left last) stages
    pub workers : (i j : ℕ) → slice_get stages i ≡ Some j → slice_get t.threads i ≡ Some (way.state i j)
    pub worker_stands : (i j : ℕ) → slice_get stages i ≡ Some j → slice_get t.shared.stands i ≡ Some (worker_stand last j)

  -- a worker is not the main thread
  pub is_not_main : (s : SourceState) (t : Team) (n : ℕ) (r : Tied s t n) (i j : ℕ) → slice_get r.stages i ≡ Some j → l.threads ≢ i
  is_not_main s t n r i j h e = let a = slice_get_within r.stages i j h in let b = r.stage_count in absurd (omega arith)

  pub main_is_not : (s : SourceState) (t : Team) (n : ℕ) (r : Tied s t n) (i j : ℕ) → slice_get r.stages i ≡ Some j → i ≢ l.threads
  main_is_not s t n r i j h e = is_not_main s t n r i j h (sym e)

  -- the main thread makes a step
  pub main_moves : (s : SourceState) (t : Team) (n : ℕ) → Tied s t n → (v : ThreadState) (a b : Memory) (slot : Option ℕ) → RunsUser v → Alike a b → Tied (source_moved s v a) (team_moved t l.threads v b slot) n
  main_moves s t n r v a b slot user alike = record {
    memory = alike;
    prints = r.prints;
    main = set_here t.threads l.threads v s.main r.main;
    main_stand = r.main_stand;
    user = user;
    no_region = r.no_region;
    source_goes = r.source_goes;
    team_goes = r.team_goes;
    all_free = r.all_free;
    count = length-set t.threads l.threads v ∙ r.count;
    stages = r.stages;
    stage_count = r.stage_count;
    stage_sum = r.stage_sum;
    workers = λ i j h. set_else t.threads l.threads i v (main_is_not s t n r i j h) ∙ r.workers i j h;
    worker_stands = r.worker_stands;
  }

  -- the main thread leaves
  pub main_leaves : (s : SourceState) (t : Team) (n : ℕ) → Tied s t n → Tied (record s { returned = true }) (team_left t l.threads) n
  main_leaves s t n r = record {
    memory = r.memory;
    prints = r.prints;
    main = r.main;
    main_stand = set_here t.shared.stands l.threads Gone _ r.main_stand;
    user = r.user;
    no_region = r.no_region;
    source_goes = r.source_goes;
    team_goes = r.team_goes;
    all_free = all_after_set is_free t.shared.stands l.threads Gone refl r.all_free;
    count = r.count;
    stages = r.stages;
    stage_count = r.stage_count;
    stage_sum = r.stage_sum;
    workers = r.workers;
    worker_stands = λ i j h. set_else t.shared.stands l.threads i Gone (main_is_not s t n r i j h) ∙ r.worker_stands i j h;
  }

  -- a worker makes a step on its way
  pub worker_moves : (s : SourceState) (t : Team) (n : ℕ) (r : Tied s t n) (d j : ℕ) → slice_get r.stages d ≡ Some j → j < last →
      (after : ℕ) × (1 + after ≤ n) × Tied s (record t { threads = slice_set t.threads d (way.state d (suc j)) }) after
  worker_moves s t n r d j h low =
      let paid = total_falls (steps_left last) r.stages d (suc j) j h (omega arith) in (
        total_of (steps_left last) (slice_set r.stages d (suc j)),
        omega (arith, r.stage_sum),
        record {
          memory = r.memory;
          prints = r.prints;
          main = set_else t.threads d l.threads _ (is_not_main s t n r d j h) ∙ r.main;
          main_stand = r.main_stand;
          user = r.user;
          no_region = r.no_region;
          source_goes = r.source_goes;
          team_goes = r.team_goes;
          all_free = r.all_free;
          count = length-set t.threads d _ ∙ r.count;
          stages = slice_set r.stages d (suc j);
          stage_count = length-set r.stages d (suc j) ∙ r.stage_count;
          stage_sum = refl;
          workers = both_set r.stages t.threads way.state r.workers d (suc j) j h;
          worker_stands = first_set r.stages t.shared.stands (λ _ j. worker_stand last j) r.worker_stands d (suc j) j h (runs_until last (suc j) (omega arith) ∙ sym (runs_until last j (omega arith)));
        },
      )

  pub worker_leaves : (s : SourceState) (t : Team) (n : ℕ) (r : Tied s t n) (d : ℕ) → slice_get r.stages d ≡ Some last → (after : ℕ) × (1 + after ≤ n) × Tied s (team_left t d) after
  worker_leaves s t n r d h =
      let paid = total_falls (steps_left last) r.stages d (suc last) last h (omega arith) in (
        total_of (steps_left last) (slice_set r.stages d (suc last)),
        omega (arith, r.stage_sum),
        record {
          memory = r.memory;
          prints = r.prints;
          main = r.main;
          main_stand = set_else t.shared.stands d l.threads Gone (is_not_main s t n r d last h) ∙ r.main_stand;
          user = r.user;
          no_region = r.no_region;
          source_goes = r.source_goes;
          team_goes = r.team_goes;
          all_free = all_after_set is_free t.shared.stands d Gone refl r.all_free;
          count = r.count;
          stages = slice_set r.stages d (suc last);
          stage_count = length-set r.stages d (suc last) ∙ r.stage_count;
          stage_sum = refl;
          workers = first_set r.stages t.threads way.state r.workers d (suc last) last h (way.stays d);
          worker_stands =
              subst (λ stand. (i j : ℕ) → slice_get (slice_set r.stages d (suc last)) i ≡ Some j → slice_get (slice_set t.shared.stands d stand) i ≡ Some (worker_stand last j)) (gone_behind last)
              (both_set r.stages t.shared.stands (λ _ j. worker_stand last j) r.worker_stands d (suc last) last h);
        },
      )
