-- The machine of a kernel, block by block. A worker waits at the team's barrier, asks for the published work, and leaves the kernel where there is
-- none. Else it runs the wrapper that was published, if it is in the region, ends the region, and waits for all others before the next turn.
use Rattle.std.specs.Prelude.{ℕ, ◌+◌, List, [], ◌∷◌, ◌++◌, codes, length, map, Some, None, if◌then◌else◌, ◌==◌, bytes_eq}
use Rattle.ir_core.specs.declared.types.Ty.{Ty}
use Rattle.ir_core.specs.declared.types.Ty.TheVariants.{Void, Int as IntTy, Ptr as PtrTy}
use Rattle.ir_core.specs.declared.instructions.Value.{Value}
use Rattle.ir_core.specs.declared.instructions.Value.TheVariants.{Int as IntValue, Null, Local, Global as GlobalValue}
use Rattle.ir_core.specs.declared.instructions.Typed.{Typed}
use Rattle.ir_core.specs.declared.instructions.Pred.TheVariants.{Eq}
use Rattle.ir_core.specs.declared.instructions.TailWord.TheVariants.{Absent}
use Rattle.ir_core.specs.declared.instructions.Kind.{Kind}
use Rattle.ir_core.specs.declared.instructions.Kind.TheVariants.{Alloca, Load, ICmp, Call, Br, CondBr, Unreachable}
use Rattle.ir_core.specs.declared.instructions.Inst.{Inst}
use Rattle.ir_core.specs.declared.module.Block.{Block}
use Rattle.ir_core.specs.declared.module.Function.{Function}
use Rattle.ir_core.specs.declared.rtl.Rtl.{Rtl}
use Rattle.ir_core.specs.declared.rtl.Rtl.TheVariants.{GenericBarrier, KernelParallel, KernelEndParallel}
use Rattle.ir_core.specs.EntryPoints.{entry_name}
use Rattle.ir_core.specs.MachineOff.{kind_off, block_off}
use Rattle.ir_core.specs.Places.{Name}
use Rattle.state_machine.specs.declared.names.Names.{Names}
use Rattle.state_machine.specs.declared.plan.Machine.{Machine}
use Rattle.state_machine.specs.Fresh.{fresh, numbered, taken_names}
use Rattle.state_machine.specs.Numbered.{flat_from}

-- ---- its names; some are there once for each wrapper

abbrev pub names_beside : List Name → Names
names_beside taken = record {
  begin = fresh taken (codes "worker.begin");
  activity = fresh taken (codes "worker.activity");
  none = fresh taken (codes "worker.none");
  end = fresh taken (codes "worker.end");
  wait = fresh taken (codes "worker.wait");
  address = fresh taken (codes "worker.fn.addr");
  active = fresh taken (codes "worker.active");
  work = fresh taken (codes "worker.fn");
  done = fresh taken (codes "worker.done");
}

-- a name with a number
abbrev pub numbered_name : List Name → Name → ℕ → Name
numbered_name taken stem n = fresh taken (numbered stem n)

-- ---- its instructions

abbrev pub pointer : Value → Typed
pointer v = record { ty = PtrTy; value = v }

abbrev pub integer : ℕ → Value → Typed
integer width v = record { ty = IntTy width; value = v }

abbrev pub gives : ℕ → Name → Kind → Inst
gives line x kind = record { result = Some x; kind = kind; line = line }

abbrev pub does : ℕ → Kind → Inst
does line kind = record { result = None; kind = kind; line = line }

abbrev pub calls_entry : Rtl → Ty → List Typed → Kind
calls_entry r ret operands = Call Absent ret (GlobalValue (entry_name r)) operands

-- all machine threads meet; the thread is the number that the init call gave
abbrev pub meets : ℕ → Name → Inst
meets line thread = does line (calls_entry GenericBarrier Void (pointer Null ∷ integer 32 (Local thread) ∷ []))

abbrev pub branches : ℕ → Name → Name → Name → Inst
branches line on then_to else_to = does line (CondBr (integer 1 (Local on)) then_to else_to)

abbrev pub goes_to : ℕ → Name → Inst
goes_to line to = does line (Br to)

-- whether there is work, and which, at the address of the first block
abbrev pub asks : ℕ → Names → Inst
asks line names = gives line names.active (calls_entry KernelParallel (IntTy 1) (pointer (Local names.address) ∷ []))

abbrev pub loads_work : ℕ → Names → Inst
loads_work line names = gives line names.work (Load PtrTy (pointer (Local names.address)) None 0)

abbrev pub is_work : ℕ → Name → Name → Value → Inst
is_work line register work other = gives line register (ICmp Eq PtrTy (Local work) other)

abbrev pub calls_wrapper : ℕ → Name → Name → Inst
calls_wrapper line thread wrapper = does line (Call Absent Void (GlobalValue wrapper) (integer 16 (IntValue 0) ∷ integer 32 (Local thread) ∷ []))

-- ---- its blocks, for an init call on a line with this result, and a block for threads without work

abbrev pub block : ℕ → Name → List Inst → Block
block line name insts = record { name = name; insts = insts; line = line }

-- a worker waits, asks, and looks whether there is work
abbrev pub begins : ℕ → Names → Name → Name → Block
begins line names thread exit =
    block line names.begin (meets line thread ∷ asks line names ∷ loads_work line names ∷ is_work line names.done names.work Null ∷ branches line names.done exit names.activity ∷ [])

-- whether it takes part
abbrev pub takes_part : ℕ → Names → Name → Block
takes_part line names first = block line names.activity (branches line names.active first names.wait ∷ [])

-- the work is compared with a wrapper
abbrev pub compares : ℕ → Name → Name → Name → Name → Name → Name → Block
compares line work check same wrapper run other = block line check (is_work line same work (GlobalValue wrapper) ∷ branches line same run other ∷ [])

-- and run
abbrev pub runs : ℕ → Name → Name → Name → Name → Block
runs line thread run wrapper end = block line run (calls_wrapper line thread wrapper ∷ goes_to line end ∷ [])

-- no other work is published
abbrev pub none : ℕ → Names → Block
none line names = block line names.none (does line Unreachable ∷ [])

abbrev pub end : ℕ → Names → Block
end line names = block line names.end (does line (calls_entry KernelEndParallel Void []) ∷ goes_to line names.wait ∷ [])

-- all wait for the others
abbrev pub waits : ℕ → Names → Name → Block
waits line names thread = block line names.wait (meets line thread ∷ goes_to line names.begin ∷ [])

-- the comparison of a number; behind the last one of so many there is none
abbrev pub check_or_none : List Name → Names → ℕ → ℕ → Name
check_or_none taken names count n = if n == count then names.none else numbered_name taken (codes "worker.check") n

abbrev pub comparison : ℕ → List Name → Names → Name → ℕ → ℕ → Name → List Block
comparison line taken names thread count n wrapper =
    compares line names.work (numbered_name taken (codes "worker.check") n) (numbered_name taken (codes "worker.is") n) wrapper (numbered_name taken (codes "worker.run") n) (check_or_none taken names count (n + 1))
    ∷ runs line thread (numbered_name taken (codes "worker.run") n) wrapper names.end
    ∷ []

-- one behind the other
abbrev pub comparisons : ℕ → List Name → Names → Name → ℕ → List Name → List Block
comparisons line taken names thread count wrappers = flat_from (comparison line taken names thread count) 0 wrappers

abbrev pub machine : List Name → Names → Machine → List Block
machine taken names a =
    (begins a.line names a.thread a.exit ∷ takes_part a.line names (check_or_none taken names (length a.wrappers) 0) ∷ [])
    ++ comparisons a.line taken names a.thread (length a.wrappers) a.wrappers
    ++ (none a.line names ∷ end a.line names ∷ waits a.line names a.thread ∷ [])

-- ---- the kernel with it

-- the branch that went to the block for threads without work goes to the machine
abbrev pub target_to : Name → Name → Name → Name
target_to exit begin x = if bytes_eq x exit then begin else x

abbrev pub kind_to : Name → Name → Kind → Kind
kind_to exit begin (CondBr cond then_to else_to) = CondBr cond (target_to exit begin then_to) (target_to exit begin else_to)
kind_to exit begin kind = kind

abbrev pub inst_to : Name → Name → Inst → Inst
inst_to exit begin i = record i { kind = kind_to exit begin (kind_off i.kind) }

-- the first block: room for the work in front, the flag of the init call 0, and the branch to the machine
abbrev pub entry_with : ℕ → Names → Name → Block → Block
entry_with line names exit b = record b { insts = gives line names.address (Alloca PtrTy 0) ∷ map (inst_to exit names.begin) b.insts }

abbrev pub blocks_with : List Name → Machine → List Block → List Block
blocks_with taken a [] = []
blocks_with taken a (b ∷ bs) = entry_with a.line (names_beside taken) a.exit b ∷ map block_off bs ++ machine taken (names_beside taken) a

-- a kernel with this machine
abbrev pub kernel_with : Machine → Function → Function
kernel_with a f = record f { blocks = blocks_with (taken_names f) a f.blocks }
