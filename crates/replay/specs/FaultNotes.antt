-- The lines on the notes for a launch and a schedule that are refused.
use Rattle.std.specs.Prelude.{ℕ, List, ◌++◌, codes, decimal}
use Rattle.run_text.specs.declared.launch.LaunchFaultKind.{LaunchFaultKind}
use Rattle.run_text.specs.declared.launch.LaunchFaultKind.TheVariants.{LineForm, NoKernel, ThreadsRange, StepsRange, ArgumentCount, ArgumentForm, ArgumentSize, TextSize}
use Rattle.run_text.specs.declared.launch.LaunchFault.{LaunchFault}
use Rattle.run_text.specs.declared.schedule.ScheduleFaultKind.{ScheduleFaultKind}
use Rattle.run_text.specs.declared.schedule.ScheduleFaultKind.TheVariants.{LineForm as BadLine, ThreadRange, NotReady, OverBound, TextSize as TooLong}
use Rattle.run_text.specs.declared.schedule.ScheduleFault.{ScheduleFault}

abbrev pub launch_fault_name : LaunchFaultKind → List ℕ
launch_fault_name LineForm = codes "line_form"
launch_fault_name NoKernel = codes "no_kernel"
launch_fault_name ThreadsRange = codes "threads_range"
launch_fault_name StepsRange = codes "steps_range"
launch_fault_name ArgumentCount = codes "argument_count"
launch_fault_name ArgumentForm = codes "argument_form"
launch_fault_name ArgumentSize = codes "argument_size"
launch_fault_name TextSize = codes "text_size"

abbrev pub schedule_fault_name : ScheduleFaultKind → List ℕ
schedule_fault_name BadLine = codes "line_form"
schedule_fault_name ThreadRange = codes "thread_range"
schedule_fault_name NotReady = codes "not_ready"
schedule_fault_name OverBound = codes "over_bound"
schedule_fault_name TooLong = codes "text_size"

abbrev pub launch_note : LaunchFault → List ℕ
launch_note f = codes "ompopt: launch: " ++ launch_fault_name f.fault ++ codes " at line " ++ decimal f.line ++ codes "\n"

abbrev pub schedule_note : ScheduleFault → List ℕ
schedule_note f = codes "ompopt: schedule: " ++ schedule_fault_name f.fault ++ codes " at line " ++ decimal f.line ++ codes " step " ++ decimal f.step ++ codes "\n"
