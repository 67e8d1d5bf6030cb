-- What a call answers that reads a text or refuses it.
use Rattle.std.specs.Prelude.{◌≡◌, Result, Ok, Err}
use Rattle.ir_core.specs.declared.answers.Or.{Or}
use Rattle.ir_core.specs.declared.answers.Or.TheVariants.{Refused, Memory}

-- the value or the fault that was to come, or want of memory
abbrev pub Answers : {A F : Type 0} → Result A F → Result A (Or F) → Type 0
Answers expected (Ok x) = expected ≡ Ok x
Answers expected (Err (Refused fault)) = expected ≡ Err fault
Answers expected (Err Memory) = Unit {0}
