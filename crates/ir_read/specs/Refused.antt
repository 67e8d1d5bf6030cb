-- Why reading gives no module.
use Rattle.std.specs.Prelude.{ℕ, List}
use Rattle.ir_core.specs.declared.answers.Or.{Or}
use Rattle.ir_core.specs.declared.answers.Or.TheVariants.{Refused, Memory}
use Rattle.ir_core.specs.TextRefusals.{IsTextRefusal}
use Rattle.ir_core.specs.declared.refusal.Refusal.{Refusal}

-- why reading has given no module: the text is refused, or memory ran out
abbrev pub IsReadRefusal : List ℕ → Or Refusal → Type 0
IsReadRefusal text (Refused r) = IsTextRefusal text r
IsReadRefusal text Memory = Unit {0}
