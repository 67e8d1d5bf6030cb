-- Parts of initializers.
use Rattle.std.specs.Prelude.{ℕ, List, ◌++◌, codes}
use Rattle.ir_core.specs.declared.module.Element.{Element}
use Rattle.ir_core.specs.Text.{type_text, init_text}

-- a part of an initializer, with its type
abbrev pub element_text : Element → List ℕ
element_text e = type_text e.ty ++ codes " " ++ init_text e.ty e.init
