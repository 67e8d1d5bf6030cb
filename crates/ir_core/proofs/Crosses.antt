-- The data of a module may go from one thread to another, and be read by several at once.
-- `module_crosses` has these facts for `search`, beside `sendable`.
-- They are of `the_field.row`, a type's fields, which is what a type that holds it asks about; from there `recorded_send` has `the_row`, the type.
use denote.Enum.Declared as E
use denote.Param.Send.{IsSend, IsSync, EachSend, EachSync, sendable, enum_send, enum_sync}
use denote.RattleType.{RattleType}
use Rattle.ir_core.proofs.module.Init.TheLaws.TheKnot as init_knot
use Rattle.ir_core.proofs.types.Ty.TheLaws.TheKnot as ty_knot
use Rattle.ir_core.specs.contracts.instructions.Inst as Inst
use Rattle.ir_core.specs.contracts.instructions.Kind as Kind
use Rattle.ir_core.specs.contracts.instructions.Typed as Typed
use Rattle.ir_core.specs.contracts.instructions.Value as Value
use Rattle.ir_core.specs.contracts.module.Block as Block
use Rattle.ir_core.specs.contracts.module.Function as Function
use Rattle.ir_core.specs.contracts.module.Init as Init
use Rattle.ir_core.specs.contracts.module.Module as Module
use Rattle.ir_core.specs.contracts.types.Ty as Ty
use Rattle.sqlite_items.specs.contracts.items.Items as List
use Rattle.std.proofs.Crossing.{crosses}

ty_send : IsSend (Ty.the_field).row
ty_send = search (sendable, crosses, ty_knot.crosses) depth 20

init_send : IsSend (Init.the_field).row
init_send = search (sendable, crosses, ty_send, init_knot.crosses) depth 20

value_send : IsSend (Value.the_field).row
value_send = search (sendable, crosses) depth 20

typed_send : IsSend (Typed.the_field).row
typed_send = search (sendable, ty_send, value_send) depth 20

list_send : (R : RattleType) → IsSend R → IsSend (List.the_row R)
list_send R s = search (sendable, crosses) depth 20

ruleset parts_send = (sendable, crosses, ty_send, init_send, value_send, typed_send, list_send)

-- the larger variants by a search each, since one for all of them runs out of steps
pub kind_send : IsSend (Kind.the_field).row
kind_send =
    let S = E.shape Kind.the_type in
    let each : EachSend S.variants = (search parts_send depth 20, (search parts_send depth 20, (search parts_send depth 20, (search parts_send depth 20, (search parts_send depth 20, (search parts_send depth 20, (search parts_send depth 20, (search parts_send depth 20, search parts_send depth 60 fits 1000)))))))) in
    enum_send S each

pub inst_send : IsSend (Inst.the_field).row
inst_send = search (parts_send, kind_send) depth 20

pub block_send : IsSend (Block.the_field).row
block_send = search (parts_send, inst_send) depth 20

pub function_send : IsSend (Function.the_field).row
function_send = search (parts_send, block_send) depth 20

pub module_send : IsSend (Module.the_field).row
module_send = search (parts_send, function_send) depth 20

ty_sync : IsSync (Ty.the_field).row
ty_sync = search (sendable, crosses, ty_knot.crosses) depth 20

init_sync : IsSync (Init.the_field).row
init_sync = search (sendable, crosses, ty_sync, init_knot.crosses) depth 20

value_sync : IsSync (Value.the_field).row
value_sync = search (sendable, crosses) depth 20

typed_sync : IsSync (Typed.the_field).row
typed_sync = search (sendable, ty_sync, value_sync) depth 20

list_sync : (R : RattleType) → IsSync R → IsSync (List.the_row R)
list_sync R s = search (sendable, crosses) depth 20

ruleset parts_sync = (sendable, crosses, ty_sync, init_sync, value_sync, typed_sync, list_sync)

-- the larger variants by a search each, since one for all of them runs out of steps
pub kind_sync : IsSync (Kind.the_field).row
kind_sync =
    let S = E.shape Kind.the_type in
    let each : EachSync S.variants = (search parts_sync depth 20, (search parts_sync depth 20, (search parts_sync depth 20, (search parts_sync depth 20, (search parts_sync depth 20, (search parts_sync depth 20, (search parts_sync depth 20, (search parts_sync depth 20, search parts_sync depth 60 fits 1000)))))))) in
    enum_sync S each

pub inst_sync : IsSync (Inst.the_field).row
inst_sync = search (parts_sync, kind_sync) depth 20

pub block_sync : IsSync (Block.the_field).row
block_sync = search (parts_sync, inst_sync) depth 20

pub function_sync : IsSync (Function.the_field).row
function_sync = search (parts_sync, block_sync) depth 20

pub module_sync : IsSync (Module.the_field).row
module_sync = search (parts_sync, function_sync) depth 20

pub ruleset module_crosses = (kind_send, kind_sync, inst_send, inst_sync, block_send, block_sync, function_send, function_sync, module_send, module_sync)
