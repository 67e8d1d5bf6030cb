use Rattle.std.proofs.Common.{◌≡◌, sym, ap, ◌∙◌, subst, rules}
use Rattle.mem_model.specs.Launching.{first_memory}
use Rattle.team_model.specs.Team.{TeamShared, first_threads, is_spmd, with_captures}
use Rattle.captures.specs.Published.{IsArea}
use Rattle.interp.proofs.Area.{first_area}
use Rattle.interp.proofs.Started.{team_started}
use Rattle.interp.proofs.team.Team.start.Goals as goal

pub returns-clause-state : goal.returns-clause-state
returns-clause-state c =
    let m = c.args.m.now in
    let l = c.args.l.now in
    team_started m l (record { shared = c.in_ok-shared.shared; threads = c.in_ok-threads.threads }) c.in_ok-memory.memory c.len.result (first_threads m l (is_spmd m l))
    c.in_ok-shared.ensures.seen c.in_ok-memory.ensures (search rules) c.in_ok-threads.ensures

pub returns-clause-team : goal.returns-clause-team
returns-clause-team c =
    let memory : c.in_ok-shared.shared.memory ≡ with_captures (first_memory c.args.m.now c.args.l.now) = ap (λ (z : TeamShared). z.common.memory) c.in_ok-shared.ensures.seen ∙ c.in_ok-memory.ensures in
    (c.in_ok-threads.ensures.0, subst IsArea (sym memory) (first_area (first_memory c.args.m.now c.args.l.now)))
