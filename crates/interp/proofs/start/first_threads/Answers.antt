use Rattle.std.proofs.Common.{◌≡◌, [], ◌∷◌, ◌++◌, sym, ◌∙◌, subst, rules}
use Rattle.team_model.specs.Team.{main_thread, first_threads}
use Rattle.thread_state.specs.Seen.{IsSeen}
use Rattle.interp.specs.Starts.{AreSeen}
use Rattle.interp.proofs.Started.{with_main, all_alike}
use Rattle.interp.proofs.Spmd.{spmd_there}
use Rattle.interp.proofs.start.first_threads.Goals as goal
use Rattle.interp.proofs.start.first_threads.Goals.{then-not-spmd+in_ok-main_thread+in_ok-add, else-not-spmd}

pub returns : goal.returns
returns c =
    let m = c.args.m.now in
    let l = c.args.l.now in
    let spmd = c.is_spmd-spmd.result in
    let ss = c.in_ok-threads.threads.items in
    let new = c.if-not-spmd.threads.items in
    subst (λ b. AreSeen m new (first_threads m l b)) c.is_spmd-spmd.ensures
    (elim c.if-not-spmd.branch [
      | then-not-spmd+in_ok-main_thread+in_ok-add w ↦
          let s = w.in_ok-main_thread.field-0 in
          let is : IsSeen m s (main_thread m l) = w.in_ok-main_thread.ensures in
          let items : new ≡ ss ++ s ∷ [] = search rules in
          with_main m l spmd ss new s c.in_ok-threads.ensures (search rules) is items
      | else-not-spmd w ↦
          let items : new ≡ ss = search rules in
          all_alike m l spmd ss new c.in_ok-threads.ensures (search rules) items
    ])

pub numbered_threads-requires-clause-spmd : goal.numbered_threads-requires-clause-spmd
numbered_threads-requires-clause-spmd c = λ e. spmd_there c.args.m.now c.args.l.now (sym c.is_spmd-spmd.ensures ∙ e)
