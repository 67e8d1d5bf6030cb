-- A schedule that is replayed is a run of the team.
use Rattle.std.proofs.Common.{◌≡◌, ℕ, zero, suc, ◌+◌, List, [], ◌∷◌, ◌++◌, map, replicate, Option, Some, None, Ok, refl, sym, ap, ◌∙◌}
use Rattle.std.proofs.lemmas.List.{map-append}
use Rattle.ir_core.specs.declared.module.Module.{Module}
use Rattle.mem_model.specs.declared.launch.Launch.{Launch}
use Rattle.mem_model.specs.Runs.{run, then_run}
use Rattle.team_model.specs.declared.Pair.{Pair}
use Rattle.team_model.specs.Team.{Team, TeamStep, TeamRun, Expand, team_start}
use Rattle.replay.specs.Turns.{Turn, turns_from, turns, if_ready, replayed, ReplayOf}

abbrev turn_thread : Turn → ℕ
turn_thread t = t.thread

-- ---- the threads of the steps

pair_threads : (thread line step count : ℕ) → map turn_thread (turns_from thread line step count) ≡ replicate count thread
pair_threads thread line step zero = refl
pair_threads thread line step (suc count) = ap (λ ts. thread ∷ ts) (pair_threads thread line (step + 1) count)

turn_threads : (line : ℕ) (ps : List Pair) → map turn_thread (turns line ps) ≡ Expand ps
turn_threads line [] = refl
turn_threads line (p ∷ ps) =
    map-append turn_thread (turns_from p.thread line 1 p.count) (turns (line + 1) ps)
    ∙ ap (λ ts. ts ++ map turn_thread (turns (line + 1) ps)) (pair_threads p.thread line 1 p.count)
    ∙ ap (λ ts. replicate p.count p.thread ++ ts) (turn_threads (line + 1) ps)

-- ---- the steps

run_on : (m : Module) (left : ℕ) (t : Turn) (ts : List Turn) (end : Team) (o : Option Team) →
    ((s : Team) → replayed m left ts s ≡ Ok end → run (TeamStep m) (map turn_thread ts) s ≡ Some end) →
    if_ready t o (replayed m left ts) ≡ Ok end → then_run o (run (TeamStep m) (map turn_thread ts)) ≡ Some end
run_on m left t ts end None more e = let f : ⊥ = cc in absurd f
run_on m left t ts end (Some s) more e = more s e

replayed_runs : (m : Module) (left : ℕ) (ts : List Turn) (s end : Team) → replayed m left ts s ≡ Ok end → run (TeamStep m) (map turn_thread ts) s ≡ Some end
replayed_runs m left [] s end e = let same : s ≡ end = cc in ap Some same
replayed_runs m zero (t ∷ ts) s end e = let f : ⊥ = cc in absurd f
replayed_runs m (suc left) (t ∷ ts) s end e = run_on m left t ts end (TeamStep m s t.thread) (λ u. replayed_runs m left ts u end) e

pub replay_is_a_run : (m : Module) (l : Launch) (pairs : List Pair) (s : Team) → ReplayOf m l pairs ≡ Ok s → TeamRun m l (Expand pairs) ≡ Some s
replay_is_a_run m l pairs s e =
    ap (λ ts. run (TeamStep m) ts (team_start m l)) (sym (turn_threads 1 pairs)) ∙ replayed_runs m l.steps (turns 1 pairs) (team_start m l) s e
