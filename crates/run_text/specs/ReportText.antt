-- The text of a report.
use Rattle.std.specs.Prelude.{ℕ, ◌+◌, ◌/◌, ◌%◌, List, [], ◌∷◌, ◌++◌, length, codes, decimal, Option, Some, None, slice_get, Bool, true, false, ◌&&◌, ◌==◌, nat_lt, if◌then◌else◌}
use Rattle.std.specs.List.{flat_map}
use Rattle.ir_core.specs.declared.module.Module.{Module}
use Rattle.ir_core.specs.declared.module.Global.{Global}
use Rattle.ir_core.specs.Text.{name_text, signed_text}
use Rattle.mem_model.specs.declared.memory.BlockName.{BlockName}
use Rattle.mem_model.specs.declared.memory.BlockName.TheVariants.{Arg as ArgBlock, Global as GlobalBlock}
use Rattle.mem_model.specs.declared.memory.Byte.{Byte}
use Rattle.mem_model.specs.declared.memory.Byte.TheVariants.{Num, Part}
use Rattle.mem_model.specs.declared.launch.Shown.{Shown}
use Rattle.mem_model.specs.declared.step.Trap.{Trap}
use Rattle.mem_model.specs.declared.step.Trap.TheVariants.{Overflow, Division, Shift, NoBlock, Released, OutOfBlock, Constant, StackLeak, NotStack, NotNumber, TooLarge, Unreachable, Unassigned}
use Rattle.team_model.specs.declared.Pair.{Pair}
use Rattle.run_text.specs.declared.report.RunMode.{RunMode}
use Rattle.run_text.specs.declared.report.RunMode.TheVariants.{Spmd, Custom, Empty, Plain, Source}
use Rattle.run_text.specs.declared.report.ReportEnd.{ReportEnd}
use Rattle.run_text.specs.declared.report.ReportEnd.TheVariants.{Ended, Stuck, Trapped, Spent, Unfinished}
use Rattle.run_text.specs.declared.report.Report.{Report}

abbrev pub line_of : List ℕ → List ℕ
line_of bytes = bytes ++ codes "\n"

-- ---- the mode and the end

abbrev pub mode_text : RunMode → List ℕ
mode_text Spmd = codes "spmd"
mode_text Custom = codes "custom"
mode_text Empty = codes "none"
mode_text Plain = codes "plain"
mode_text Source = codes "source"

abbrev pub trap_text : Trap → List ℕ
trap_text Overflow = codes "Overflow"
trap_text Division = codes "Division"
trap_text Shift = codes "Shift"
trap_text NoBlock = codes "NoBlock"
trap_text Released = codes "Released"
trap_text OutOfBlock = codes "OutOfBlock"
trap_text Constant = codes "Constant"
trap_text StackLeak = codes "StackLeak"
trap_text NotStack = codes "NotStack"
trap_text NotNumber = codes "NotNumber"
trap_text TooLarge = codes "TooLarge"
trap_text Unreachable = codes "Unreachable"
trap_text Unassigned = codes "Unassigned"

abbrev pub is_source : RunMode → Bool
is_source Source = true
is_source _ = false

-- in a run of the source, m is the main thread, whose number is that of the region threads
abbrev pub thread_text : RunMode → ℕ → ℕ → List ℕ
thread_text mode threads thread = if is_source mode && (thread == threads) then codes "m" else decimal thread

abbrev pub end_text : RunMode → ℕ → ReportEnd → List ℕ
end_text mode threads Ended = codes "ended"
end_text mode threads Stuck = codes "stuck"
end_text mode threads (Trapped thread line trap) = codes "trapped " ++ thread_text mode threads thread ++ codes " line " ++ decimal line ++ codes " " ++ trap_text trap
end_text mode threads Spent = codes "spent"
end_text mode threads Unfinished = codes "open"

-- ---- printed values, and bytes

abbrev pub print_line : ℕ → List ℕ
print_line n = line_of (codes "print " ++ signed_text 64 n)

abbrev pub hex_digit : ℕ → ℕ
hex_digit n = if nat_lt n 10 then 48 + n else 87 + n

-- a byte that is part of a pointer shows only as such
abbrev pub byte_text : Byte → List ℕ
byte_text (Num n) = hex_digit (n / 16) ∷ hex_digit (n % 16) ∷ []
byte_text (Part p k) = codes "**"

-- a space and the bytes, or nothing where there are none
abbrev pub bytes_text : List Byte → List ℕ
bytes_text [] = []
bytes_text (b ∷ bs) = codes " " ++ flat_map byte_text (b ∷ bs)

-- a global that isn't constant, by its name's spelling in the canonical text, without the @
abbrev pub global_line : Option Global → List Byte → List ℕ
global_line None bytes = []
global_line (Some g) bytes = if g.constant then [] else line_of (codes "global " ++ name_text g.name ++ bytes_text bytes)

-- blocks of other kinds are left out, and globals that the module hasn't
abbrev pub block_line : Module → BlockName → List Byte → List ℕ
block_line m (ArgBlock place) bytes = line_of (codes "memory " ++ decimal place ++ bytes_text bytes)
block_line m (GlobalBlock place) bytes = global_line (slice_get m.globals place) bytes
block_line m _ bytes = []

abbrev pub shown_line : Module → Shown → List ℕ
shown_line m s = block_line m s.name s.bytes

-- ---- the schedule

abbrev pub pair_line : RunMode → ℕ → Pair → List ℕ
pair_line mode threads p = line_of (thread_text mode threads p.thread ++ codes " " ++ decimal p.count)

-- the report of a run; the module is the one that was read, and names the globals
abbrev pub report_text : Module → Report → List ℕ
report_text m r =
    line_of (codes "mode " ++ mode_text r.mode)
    ++ line_of (codes "end " ++ end_text r.mode r.threads r.end)
    ++ flat_map print_line r.prints
    ++ flat_map (shown_line m) r.memory
    ++ line_of (codes "schedule " ++ decimal (length r.schedule))
    ++ flat_map (pair_line r.mode r.threads) r.schedule
