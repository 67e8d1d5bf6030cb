-- Where the layouts of named types are looked up: in a table of them, or in their list.
use Rattle.std.specs.Prelude.{◌≡◌, ℕ, zero, suc, List, length, IsSome, Option, None, option_and_then}
use Rattle.ir_core.specs.declared.types.Ty.{Ty, out-Ty}
use Rattle.ir_core.specs.declared.module.TypeDef.{TypeDef}
use Rattle.ir_core.specs.Layout.{Parts, layer_parts, body_of, named_layout, named_parts}
use Rattle.ir_tables.specs.declared.laid.Laid.{Laid}
use Rattle.ir_tables.specs.declared.named.Named.{Named}
use Rattle.ir_tables.specs.declared.named.Named.TheVariants.{InTable, InList}
use Rattle.ir_tables.specs.Laid.{AreKept, laid_of}
use Rattle.ir_tables.specs.Table.{known_of, known_laid, end_parts}

-- what is kept of the layout of a name in the list, with names looked through so deep
abbrev pub listed_laid : ℕ → List TypeDef → List ℕ → Option Laid
listed_laid zero types x = None
listed_laid (suc depth) types x = option_and_then (laid_of (listed_laid depth types)) (body_of types x)

-- what is kept of a name's layout
abbrev pub name_laid : Named → List ℕ → Option Laid
name_laid (InTable types table) = known_laid table.now
name_laid (InList types depth) = listed_laid depth types.now

-- what an index goes into in the type of a name
abbrev pub name_parts : Named → List ℕ → Parts
name_parts (InTable types table) = λ (x : List ℕ). end_parts types.now (known_of table.now x)
name_parts (InList types depth) = named_parts depth types.now

-- what an index goes into in a type
abbrev pub parts_by : Named → Ty → Parts
parts_by named ty = layer_parts (name_parts named) (out-Ty ty)

-- the look-ups give what the names of these types stand for
pub record Serves (types : List TypeDef) (named : Named) : Type 0 where
  pub laid : (x : List ℕ) → AreKept (name_laid named x) (named_layout (length types) types x)
  pub parts : (x : List ℕ) → IsSome (named_layout (length types) types x) → name_parts named x ≡ named_parts (length types) types x
