use Rattle.std.proofs.Common.{◌≡◌, drop, ◌&&◌}
use Rattle.std.specs.Str.{bytes_eq}
use Rattle.ir_core.specs.Text.{name_text}
use Rattle.mem_model.specs.Launching.{is_kernel}
use Rattle.run_text.specs.LaunchText.{first_function, kernel_named}
use Rattle.run_text.proofs.kernels.kernel_named.Given as goal

-- the first among the rest is the first of all
abbrev pub invariant-loop-f : goal.invariant-loop-f
invariant-loop-f l = first_function (λ f. is_kernel f && bytes_eq (name_text f.name) l.spelling) (drop l.f-index l.m.functions) ≡ kernel_named l.m l.spelling
