-- What the optimiser gives may go from one thread to another, and be read by several at once.
use denote.Param.Send.{IsSend, IsSync, sendable}
use Rattle.ir_tables.proofs.Crosses.{indexed_send, indexed_sync}
use Rattle.out_modules.specs.contracts.out_module.OutModule as OutModule

pub out_module_send : IsSend OutModule.the_row
out_module_send = search (sendable, indexed_send) depth 20

pub out_module_sync : IsSync OutModule.the_row
out_module_sync = search (sendable, indexed_sync) depth 20

pub ruleset out_module_crosses = (out_module_send, out_module_sync)
