-- The steps of a schedule, one by one.
use Rattle.std.proofs.Common.{◌≡◌, ℕ, zero, suc, ◌+◌, ◌-◌, ◌<◌, List, ◌∷◌, ◌++◌, length, drop, get_or, Result, Ok, Err, sym, ap, ◌∙◌, arith}
use Rattle.std.proofs.lemmas.List.{drop_more}
use Rattle.ir_core.specs.declared.module.Module.{Module}
use Rattle.ir_core.specs.declared.answers.Or.{Or}
use Rattle.ir_core.specs.declared.answers.Or.TheVariants.{Refused, Memory}
use Rattle.team_model.specs.declared.Pair.{Pair}
use Rattle.team_model.specs.Team.{Team}
use Rattle.run_text.specs.declared.schedule.ScheduleFaultKind.{ScheduleFaultKind}
use Rattle.run_text.specs.declared.schedule.ScheduleFault.{ScheduleFault}
use Rattle.interp.specs.declared.team.Team.{Team as TeamData}
use Rattle.interp.specs.Teams.{team_seen, IsTeam}
use Rattle.replay.specs.Turns.{Turn, turns_from, turns, fault_of, if_ready, replayed}
use Rattle.replay.specs.Replays.{TakesTurn, GoesOn, IsReplayed}

-- the next step of a pair, and those behind it
pub turn_more : (thread line step count : ℕ) → step < count → turns_from thread line (step + 1) (count - step) ≡ record { thread = thread; line = line; step = step + 1 } ∷ turns_from thread line (step + 1 + 1) (count - (step + 1))
turn_more thread line step count l = let e : count - step ≡ suc (count - (step + 1)) = omega arith in ap (turns_from thread line (step + 1)) e

-- the next pair, and those behind it
pub pair_more : (line i : ℕ) (ps : List Pair) (p : Pair) → i < length ps → turns line (drop i ps) ≡ turns_from (get_or ps i p).thread line 1 (get_or ps i p).count ++ turns (line + 1) (drop (i + 1) ps)
pair_more line i ps p l = ap (turns line) (drop_more ps i p l)

-- a step that was made
pub goes : (m : Module) (left : ℕ) (t : Turn) (ts : List Turn) (old new : TeamData) (fewer : ℕ) → TakesTurn m left t.thread old new (Ok fewer) → replayed m left (t ∷ ts) (team_seen m old) ≡ replayed m fewer ts (team_seen m new)
goes m zero t ts old new fewer h = absurd (let f : Ok fewer ≡ Err (Refused _) = h in cc)
goes m (suc left) t ts old new fewer h = ap (λ o. if_ready t o (replayed m left ts)) h.2 ∙ ap (λ n. replayed m n ts (team_seen m new)) (sym h.0)

-- a step that couldn't be made
pub stops : (m : Module) (left : ℕ) (t : Turn) (ts : List Turn) (old new : TeamData) (fault : ScheduleFaultKind) → TakesTurn m left t.thread old new (Err (Refused fault)) → replayed m left (t ∷ ts) (team_seen m old) ≡ Err (fault_of t fault)
stops m zero t ts old new fault h = ap (λ f. Err (fault_of t f)) (let e : _ ≡ fault = cc in e)
stops m (suc left) t ts old new fault h = ap (λ o. if_ready t o (replayed m left ts)) h.1 ∙ ap (λ f. Err (fault_of t f)) (sym h.0)

-- a step that is made keeps the threads' states
pub keeps : (m : Module) (left thread fewer : ℕ) (old new : TeamData) → TakesTurn m left thread old new (Ok fewer) → IsTeam m new
keeps m zero thread fewer old new h = absurd (let f : Ok fewer ≡ Err (Refused _) = h in cc)
keeps m (suc left) thread fewer old new h = h.1

-- the steps of a pair end the replay
pub refused_by : (U : Type 0) (m : Module) (e : Or ScheduleFault) (whole expected : Result Team ScheduleFault) (new : TeamData) (rest : List Turn) → GoesOn m expected rest new (Err e) → whole ≡ expected → IsReplayed {U = U} m whole new (Err e)
refused_by U m (Refused fault) whole expected new rest h same = same ∙ h
refused_by U m Memory whole expected new rest h same = tt
