-- Which launch a text spells for a module, or its first fault.
use Rattle.std.specs.Prelude.{ℕ, ◌+◌, ◌-◌, List, [], ◌∷◌, length, replicate, codes, Option, Some, None, option_map, option_and_then, Result, Ok, Err, Bool, true, false, not, ◌&&◌, ◌==◌, nat_lt, nat_le, if◌then◌else◌}
use Rattle.std.specs.List.{filter}
use Rattle.std.specs.Str.{bytes_eq}
use Rattle.ir_core.specs.declared.types.Ty.{Ty}
use Rattle.ir_core.specs.declared.types.Ty.TheVariants.{Int as IntTy, Ptr}
use Rattle.ir_core.specs.declared.module.Module.{Module}
use Rattle.ir_core.specs.declared.module.Function.{Function}
use Rattle.ir_core.specs.declared.module.Param.{Param}
use Rattle.ir_core.specs.Numbers.{fits, modulo}
use Rattle.ir_core.specs.Text.{name_text}
use Rattle.mem_model.specs.declared.launch.Launch.{Launch}
use Rattle.mem_model.specs.declared.launch.Arg.{Arg}
use Rattle.mem_model.specs.declared.launch.Arg.TheVariants.{Buffer, Int as IntArg, Null}
use Rattle.mem_model.specs.Memory.{block_limit}
use Rattle.mem_model.specs.Launching.{is_kernel, threads_limit, steps_limit, buffers_limit, buffer_size}
use Rattle.run_text.specs.declared.launch.LaunchFaultKind.{LaunchFaultKind}
use Rattle.run_text.specs.declared.launch.LaunchFaultKind.TheVariants.{LineForm, NoKernel, ThreadsRange, StepsRange, ArgumentCount, ArgumentForm, ArgumentSize, TextSize}
use Rattle.run_text.specs.declared.launch.LaunchFault.{LaunchFault}
use Rattle.run_text.specs.Lines.{Line, lines, numbered, behind, numeral, hex_bytes}

-- 4,194,304 bytes
unfoldable pub launch_limit : ℕ
launch_limit = 4194304

-- ---- what one line says: its value, or its fault with the least number

abbrev pub first_function : (Function → Bool) → List Function → Option Function
first_function is [] = None
first_function is (f ∷ fs) = if is f then Some f else first_function is fs

-- a kernel by its name's spelling in the canonical text, without the @
abbrev pub kernel_named : Module → List ℕ → Option Function
kernel_named m name = first_function (λ f. is_kernel f && bytes_eq (name_text f.name) name) m.functions

abbrev pub known_kernel : Option Function → Result Function LaunchFaultKind
known_kernel None = Err NoKernel
known_kernel (Some f) = Ok f

-- kernel NAME: the rest of the line, which is not empty
abbrev pub named_kernel : Module → Option (List ℕ) → Result Function LaunchFaultKind
named_kernel m None = Err LineForm
named_kernel m (Some []) = Err LineForm
named_kernel m (Some (c ∷ cs)) = known_kernel (kernel_named m (c ∷ cs))

abbrev pub kernel_line : Module → List ℕ → Result Function LaunchFaultKind
kernel_line m line = named_kernel m (behind (codes "kernel ") line)

-- a number from 1 to a limit
abbrev pub in_range : ℕ → LaunchFaultKind → Option ℕ → Result ℕ LaunchFaultKind
in_range limit fault None = Err LineForm
in_range limit fault (Some n) = if nat_le 1 n && nat_le n limit then Ok n else Err fault

-- threads N
abbrev pub threads_line : List ℕ → Result ℕ LaunchFaultKind
threads_line line = in_range threads_limit ThreadsRange (option_and_then numeral (behind (codes "threads ") line))

-- steps N
abbrev pub steps_line : List ℕ → Result ℕ LaunchFaultKind
steps_line line = in_range steps_limit StepsRange (option_and_then numeral (behind (codes "steps ") line))

-- ---- arguments

pub data ArgForm : Type 0 where
  Zeros : ℕ → ArgForm
  Bytes : List ℕ → ArgForm
  NullForm : ArgForm
  NumberForm : (is_negative : Bool) → (magnitude : ℕ) → ArgForm

abbrev pub or_else : {A : Type 0} → Option A → Option A → Option A
or_else (Some x) y = Some x
or_else None y = y

-- at least one
abbrev pub positive : Option ℕ → Option ℕ
positive None = None
positive (Some n) = if n == 0 then None else Some n

abbrev pub some_bytes : Option (List ℕ) → Option (List ℕ)
some_bytes (Some (b ∷ bs)) = Some (b ∷ bs)
some_bytes _ = None

abbrev pub negative_form : ℕ → ArgForm
negative_form n = NumberForm true n

abbrev pub positive_form : ℕ → ArgForm
positive_form n = NumberForm false n

-- a number, with a - before it where it is below 0
abbrev pub number_form : List ℕ → Option ArgForm
number_form digits = or_else (option_map positive_form (numeral digits)) (option_map negative_form (positive (option_and_then numeral (behind (codes "-") digits))))

-- arg zeros N, arg bytes HEX, arg null or arg int N
abbrev pub arg_form : List ℕ → Option ArgForm
arg_form line =
    or_else (option_map Zeros (positive (option_and_then numeral (behind (codes "arg zeros ") line))))
    (or_else (option_map Bytes (some_bytes (option_and_then hex_bytes (behind (codes "arg bytes ") line))))
    (or_else (if bytes_eq line (codes "arg null") then Some NullForm else None)
    (option_and_then number_form (behind (codes "arg int ") line))))

-- a buffer of so many bytes, where so many are left for all buffers
abbrev pub sized : ℕ → ℕ → List ℕ → Result Arg LaunchFaultKind
sized left size bytes = if nat_le size block_limit && nat_le size left then Ok (Buffer bytes) else Err ArgumentSize

-- the argument for a parameter of this type
abbrev pub arg_for : ℕ → Ty → ArgForm → Result Arg LaunchFaultKind
arg_for left Ptr (Zeros n) = sized left n (replicate n 0)
arg_for left Ptr (Bytes bytes) = sized left (length bytes) bytes
arg_for left Ptr NullForm = Ok Null
arg_for left (IntTy width) (NumberForm is_negative n) = if fits width is_negative n then Ok (IntArg (modulo width is_negative n)) else Err ArgumentForm
arg_for left _ _ = Err ArgumentForm

abbrev pub formed_arg : ℕ → Ty → Option ArgForm → Result Arg LaunchFaultKind
formed_arg left ty None = Err LineForm
formed_arg left ty (Some form) = arg_for left ty form

-- an argument line that is one too many
abbrev pub surplus : Option ArgForm → LaunchFaultKind
surplus None = LineForm
surplus (Some form) = ArgumentCount

-- ---- the lines in their order; end is the number of the line after the last

abbrev pub fault_at : ℕ → LaunchFaultKind → LaunchFault
fault_at line fault = record { fault = fault; line = line }

abbrev pub or_fault : {A B : Type 0} → ℕ → Result A LaunchFaultKind → (A → Result B LaunchFault) → Result B LaunchFault
or_fault line (Err fault) go = Err (fault_at line fault)
or_fault line (Ok x) go = go x

-- reads the next line, and goes on with what it says; a missing line counts as the line after the last
abbrev pub next_line : {A B : Type 0} → ℕ → (List ℕ → Result A LaunchFaultKind) → List Line → (A → List Line → Result B LaunchFault) → Result B LaunchFault
next_line end read [] go = Err (fault_at end LineForm)
next_line end read (l ∷ ls) go = or_fault l.number (read l.bytes) (λ x. go x ls)

abbrev pub and_more : Arg → Result (List Arg) LaunchFault → Result (List Arg) LaunchFault
and_more arg (Err fault) = Err fault
and_more arg (Ok args) = Ok (arg ∷ args)

-- one argument line for each parameter, where so many bytes are left for all buffers
abbrev pub arguments : ℕ → ℕ → List Param → List Line → Result (List Arg) LaunchFault
arguments end left [] [] = Ok []
arguments end left [] (l ∷ ls) = Err (fault_at l.number (surplus (arg_form l.bytes)))
arguments end left (p ∷ ps) [] = Err (fault_at end ArgumentCount)
arguments end left (p ∷ ps) (l ∷ ls) = or_fault l.number (formed_arg left p.ty (arg_form l.bytes)) (λ arg. and_more arg (arguments end (left - buffer_size arg) ps ls))

abbrev pub launch_with : Function → ℕ → ℕ → Result (List Arg) LaunchFault → Result Launch LaunchFault
launch_with f threads steps (Err fault) = Err fault
launch_with f threads steps (Ok args) = Ok (record { kernel = f.name; threads = threads; steps = steps; args = args })

abbrev pub launch_in : Module → ℕ → List Line → Result Launch LaunchFault
launch_in m end ls =
    next_line end (kernel_line m) ls (λ f ls. next_line end threads_line ls (λ threads ls. next_line end steps_line ls (λ steps ls.
    launch_with f threads steps (arguments end buffers_limit f.params ls))))

-- empty lines and lines that begin with # are skipped
abbrev pub is_kept_line : List ℕ → Bool
is_kept_line [] = false
is_kept_line (c ∷ cs) = not (c == 35)

abbrev pub is_kept : Line → Bool
is_kept l = is_kept_line l.bytes

-- the launch, or the fault: first the size of the text, then the first line with a fault, and of its faults the one with the least number
abbrev pub LaunchOf : Module → List ℕ → Result Launch LaunchFault
LaunchOf m text =
    if nat_lt launch_limit (length text) then Err (fault_at 1 TextSize) else
    launch_in m (length (lines text) + 1) (filter is_kept (numbered 1 (lines text)))
