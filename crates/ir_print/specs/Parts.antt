-- Parts of the text that several functions write.
use Rattle.std.specs.Prelude.{ℕ, List, ◌++◌, codes, map}
use Rattle.std.specs.List.{flat_map}
use Rattle.ir_core.specs.declared.module.Function.{Function}
use Rattle.ir_core.specs.declared.module.Global.{Global}
use Rattle.ir_core.specs.Text.{spaced_words, type_text, global_name_text, constness_text, all_led, heading_text, param_text, param_type_text, block_text}

-- a function's heading up to its parameters
abbrev pub heading_start : Function → List ℕ
heading_start f = spaced_words f.words ++ type_text f.ret ++ codes " " ++ global_name_text f.name ++ codes "("

-- a function's heading behind its parameters
abbrev pub heading_end : Function → List ℕ
heading_end f = codes ")" ++ all_led (codes " ") f.groups

-- a global up to its type
abbrev pub global_start : Global → List ℕ
global_start g = global_name_text g.name ++ codes " = " ++ spaced_words g.words ++ constness_text g.constant ++ codes " "

abbrev pub declaration_text : Function → List ℕ
declaration_text f = codes "declare " ++ heading_text f (map param_type_text f.params) ++ codes "\n"

unfoldable pub definition_heading : Function → List ℕ
definition_heading f = codes "define " ++ heading_text f (map param_text f.params)

abbrev pub definition_text : Function → List ℕ
definition_text f = definition_heading f ++ codes " {\n" ++ flat_map block_text f.blocks ++ codes "}\n"
