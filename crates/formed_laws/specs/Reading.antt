-- Modules that are read.
use Rattle.std.specs.Prelude.{◌≡◌, ℕ, List, true}
use Rattle.ir_core.specs.declared.module.Module.{Module}
use Rattle.ir_core.specs.Bytes.{every}
use Rattle.ir_core.specs.Formed.{is_byte, Formed}
use Rattle.ir_core.specs.Language.{Reads}

-- a text of bytes that spells a module shows that some text spells it
abbrev pub ReadIsFormed : Type 0
ReadIsFormed = (text : List ℕ) (m : Module) → every is_byte text ≡ true → Reads text m → Formed m
