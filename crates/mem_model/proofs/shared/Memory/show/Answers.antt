use Rattle.std.proofs.Common.{refl, sym, ◌∙◌}
use Rattle.mem_model.proofs.Calls.{shows, shows_nothing}
use Rattle.mem_model.proofs.RowLaws.{found_in}
use Rattle.mem_model.proofs.shared.Memory.show.Goals as goal
use Rattle.mem_model.proofs.shared.Memory.show.Goals.{in-Some+in_ok-bytes-in-Some, in-None}

pub returns : goal.returns
returns c =
    elim c.match-get.branch [
      | in-Some+in_ok-bytes-in-Some w ↦
          (refl, w.bytes-is ∙ w.in_ok-bytes-in-Some.ensures ∙ w.as_slice.ensures.value ∙ shows _ c.args.name w.in-Some.block.now _ (found_in _ c.args.name ∙ sym w.in-Some.ensures) c.self.view_is)
      | in-None w ↦ absurd (shows_nothing _ c.args.name _ (found_in _ c.args.name ∙ sym w.in-None.ensures) c.self.view_is c.requires)
    ]
