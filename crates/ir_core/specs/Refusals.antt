-- What is refused beyond the language.
use Rattle.ir_core.specs.declared.refusal.Construct.TheVariants.{NotBuilt}
use Rattle.ir_core.specs.declared.refusal.Refusal.{Refusal}

-- the module is beyond what is built by now, which is said of its first line
abbrev pub not_built : Refusal
not_built = record { construct = NotBuilt; line = 1 }
