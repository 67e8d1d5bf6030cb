-- What the code keeps of a kernel's first block, as the definitions have it.
use Rattle.std.specs.Prelude.{ℕ, ◌+◌, List, take, drop, Option, Some, None, option_map, slice_get}
use Rattle.ir_core.specs.declared.instructions.Case.{Case}
use Rattle.ir_core.specs.declared.instructions.Inst.{Inst}
use Rattle.ir_core.specs.Places.{Name}
use Rattle.shapes.specs.KernelShape.{Ways as WaysGiven, Opening}
use Rattle.kernel_shapes.specs.declared.branch.Ways.{Ways}

abbrev pub ways_seen : Ways → WaysGiven
ways_seen w = record { user = w.user.now; exit = w.exit.now }

abbrev pub opened_by : List Inst → ℕ → Inst → Opening
opened_by insts place init = record { before = take place insts; init = init; behind = drop (place + 1) insts }

-- where a case of a switch goes
abbrev pub case_block : Case → Name
case_block c = c.block

-- a block with its init call at a place
abbrev pub opened : List Inst → Option ℕ → Option Opening
opened insts None = None
opened insts (Some place) = option_map (opened_by insts place) (slice_get insts place)
