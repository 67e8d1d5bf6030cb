use denote.Param.Send.{sendable}
use Rattle.out_modules.proofs.Crosses.{out_module_crosses}
use Rattle.out_modules.proofs.crossing.out_module_crosses.Goals as goal

pub crosses-requires-send-T : goal.crosses-requires-send-T
crosses-requires-send-T c κs = search (out_module_crosses, sendable)

pub crosses-requires-sync-T : goal.crosses-requires-sync-T
crosses-requires-sync-T c κs = search (out_module_crosses, sendable)
