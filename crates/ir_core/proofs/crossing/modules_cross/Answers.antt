use denote.Param.Send.{sendable}
use Rattle.ir_core.proofs.Crosses.{module_crosses}
use Rattle.ir_core.proofs.crossing.modules_cross.Goals as goal

pub crosses-requires-send-T : goal.crosses-requires-send-T
crosses-requires-send-T c κs = search (module_crosses, sendable)

pub crosses-requires-sync-T : goal.crosses-requires-sync-T
crosses-requires-sync-T c κs = search (module_crosses, sendable)
