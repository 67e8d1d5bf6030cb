-- Modules with their tables may go from one thread to another, and be read by several at once.
use denote.Param.Send.{IsSend, IsSync, sendable}
use Rattle.std.proofs.Crossing.{crosses}
use Rattle.ir_core.proofs.Crosses.{module_crosses}
use Rattle.ir_tables.specs.contracts.indexed.Indexed as Indexed
use Rattle.ir_tables.specs.contracts.names.Locals as Locals
use Rattle.ir_tables.specs.contracts.table.Table as Table
use Rattle.ir_tables.specs.contracts.table.Places as Places
use Rattle.ir_tables.specs.contracts.tables.Tables as Tables

places_send : IsSend (Places.the_field).row
places_send = search (sendable, crosses) depth 40

table_send : IsSend (Table.the_field).row
table_send = search (sendable, crosses, places_send) depth 40

locals_send : IsSend (Locals.the_field).row
locals_send = search (sendable, crosses) depth 40

tables_send : IsSend (Tables.the_field).row
tables_send = search (sendable, crosses, table_send, locals_send) depth 40

pub indexed_send : IsSend (Indexed.the_field).row
indexed_send = search (sendable, crosses, module_crosses, tables_send) depth 40

places_sync : IsSync (Places.the_field).row
places_sync = search (sendable, crosses) depth 40

table_sync : IsSync (Table.the_field).row
table_sync = search (sendable, crosses, places_sync) depth 40

locals_sync : IsSync (Locals.the_field).row
locals_sync = search (sendable, crosses) depth 40

tables_sync : IsSync (Tables.the_field).row
tables_sync = search (sendable, crosses, table_sync, locals_sync) depth 40

pub indexed_sync : IsSync (Indexed.the_field).row
indexed_sync = search (sendable, crosses, module_crosses, tables_sync) depth 40
