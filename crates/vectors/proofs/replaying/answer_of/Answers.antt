use Rattle.opt_core.specs.Answer.{texts}
use Rattle.opt_core.specs.Replay.{paths_of}
use Rattle.opt_core.proofs.ReplayFiles.{are_there}
use Rattle.vectors.proofs.replaying.answer_of.Goals as goal

pub replay_main-status-requires : goal.replay_main-status-requires
replay_main-status-requires c = are_there c.in_ok-inputs.inputs (paths_of (texts c.as_slice.result.now)) c.in_ok-inputs.ensures (rw (c.as_slice.ensures.value) c.in_ok-words.ensures)
