use denote.Param.Send.{sendable}
use Rattle.checked_modules.proofs.Crosses.{checked_crosses}
use Rattle.checked_modules.proofs.crossing.checked_cross.Goals as goal

pub crosses-requires-send-T : goal.crosses-requires-send-T
crosses-requires-send-T c κs = search (checked_crosses, sendable)

pub crosses-requires-sync-T : goal.crosses-requires-sync-T
crosses-requires-sync-T c κs = search (checked_crosses, sendable)
