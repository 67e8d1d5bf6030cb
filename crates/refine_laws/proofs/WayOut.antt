-- The way of the workers out of a kernel that publishes no work for them.
use Rattle.std.proofs.Common.{◌≡◌, ℕ, suc, ◌-◌, ◌<◌, ◌≤◌, Bool, true, false, Some, refl, ap, arith}
use Rattle.std.specs.Prelude.{nat_le, if◌then◌else◌}
use Rattle.std.proofs.lemmas.Bool.{le-leb, leb-true, false_from_ne_true}
use Rattle.ir_core.specs.declared.module.Module.{Module}
use Rattle.mem_model.specs.declared.launch.Launch.{Launch}
use Rattle.mem_model.specs.Thread.{ThreadState}
use Rattle.mem_model.specs.Next.{Local, Pending, Leaves, Next}
use Rattle.team_model.specs.declared.Stand.{Stand}
use Rattle.team_model.specs.declared.Stand.TheVariants.{Runs, Ended as Gone}
use Rattle.team_model.specs.Team.{worker}

-- worker i is in a state of its own after j steps. Its last step, behind so many others, ends it and changes its state no more
pub record WayOut (out : Module) (l : Launch) (last : ℕ) : Type 0 where
  pub state : ℕ → ℕ → ThreadState
  pub begins : (i : ℕ) → worker out l i ≡ state i 0
  pub goes : (i j : ℕ) → i < l.threads → j < last → Next out (state i j) ≡ Local (state i (suc j))
  pub leaves : (i : ℕ) → i < l.threads → Next out (state i last) ≡ Pending Leaves
  pub stays : (i : ℕ) → state i (suc last) ≡ state i last

-- how many steps a worker has left after j
abbrev pub steps_left : ℕ → ℕ → ℕ
steps_left last j = suc last - j

-- how a worker stands after j steps
abbrev pub worker_stand : ℕ → ℕ → Stand
worker_stand last j = if nat_le j last then Runs else Gone

pub runs_until : (last j : ℕ) → j ≤ last → worker_stand last j ≡ Runs
runs_until last j low = ap (λ b. if b then Runs else Gone) (le-leb j last low)

pub gone_behind : (last : ℕ) → worker_stand last (suc last) ≡ Gone
gone_behind last = ap (λ b. if b then Runs else Gone) (false_from_ne_true (nat_le (suc last) last) (λ e. let low = leb-true (suc last) last e in omega arith))

pub still_runs : (last j : ℕ) → Some (worker_stand last j) ≡ Some Runs → j ≤ last
still_runs last j = by_test (nat_le j last) refl
  where
    by_test : (b : Bool) → nat_le j last ≡ b → Some (if b then Runs else Gone) ≡ Some Runs → j ≤ last
    by_test true e h = leb-true j last e
    by_test false e h = let f : ⊥ = cc in absurd f
