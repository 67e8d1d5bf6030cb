-- Modules that keep rules may go from one thread to another, and be read by several at once.
use denote.Param.Send.{IsSend, IsSync, sendable}
use Rattle.ir_tables.proofs.Crosses.{indexed_send, indexed_sync}
use Rattle.checked_modules.specs.contracts.checked.Checked as Checked

pub checked_send : IsSend Checked.the_row
checked_send = search (sendable, indexed_send) depth 20

pub checked_sync : IsSync Checked.the_row
checked_sync = search (sendable, indexed_sync) depth 20

pub ruleset checked_crosses = (checked_send, checked_sync)
