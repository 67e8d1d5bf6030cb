-- Numbers as names of parameters.
use Rattle.std.specs.Prelude.{ℕ, List, length, map}
use Rattle.std.specs.List.{filter}
use Rattle.ir_core.specs.declared.module.Param.{Param}
use Rattle.ir_core.specs.Language.{param_name}
use Rattle.ir_core.specs.Text.{is_digits}

abbrev pub names_of : List Param → List (List ℕ)
names_of ps = map param_name ps

-- how many of the names are numbers
abbrev pub numerals : List Param → ℕ
numerals ps = length (filter is_digits (names_of ps))
