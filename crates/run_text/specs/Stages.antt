-- What is left to read of a launch behind each of its lines.
use Rattle.std.specs.Prelude.{◌≡◌, ℕ, List, Result, Err}
use Rattle.std.specs.List.{All}
use Rattle.ir_core.specs.declared.answers.Or.{Or}
use Rattle.ir_core.specs.declared.answers.Or.TheVariants.{Refused, Memory}
use Rattle.ir_core.specs.declared.module.Function.{Function}
use Rattle.ir_core.specs.declared.module.Param.{Param}
use Rattle.mem_model.specs.declared.launch.Launch.{Launch}
use Rattle.mem_model.specs.Launching.{buffers_limit}
use Rattle.run_text.specs.declared.launch.LaunchFault.{LaunchFault}
use Rattle.run_text.specs.Lines.{Line}
use Rattle.run_text.specs.LaunchText.{threads_line, steps_line, next_line, arguments, launch_with}
use Rattle.run_text.specs.Forms.{HasWidth}

abbrev pub has_param_width : Param → Type 0
has_param_width p = HasWidth p.ty

abbrev pub HaveWidths : List Param → Type 0
HaveWidths = All has_param_width

abbrev pub behind_steps : Function → ℕ → ℕ → ℕ → List Line → Result Launch LaunchFault
behind_steps f end threads steps ls = launch_with f threads steps (arguments end buffers_limit f.params ls)

abbrev pub behind_threads : Function → ℕ → ℕ → List Line → Result Launch LaunchFault
behind_threads f end threads ls = next_line end steps_line ls (behind_steps f end threads)

abbrev pub behind_kernel : ℕ → Function → List Line → Result Launch LaunchFault
behind_kernel end f ls = next_line end threads_line ls (behind_threads f end)

-- the fault that was to come, or want of memory
abbrev pub Told : {A F : Type 0} → Result A F → Or F → Type 0
Told expected (Refused fault) = expected ≡ Err fault
Told expected Memory = Unit {0}
