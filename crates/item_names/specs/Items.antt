-- The refusals of a module for the names and types of its items: those of functions are the ones of their headings.
use Rattle.std.specs.Prelude.{List, [], ◌++◌, map, Bool, true, Option, Some, None}
use Rattle.std.specs.List.{flat_map}
use Rattle.ir_core.specs.declared.module.Module.{Module}
use Rattle.ir_core.specs.declared.module.Function.{Function}
use Rattle.ir_core.specs.declared.refusal.Refusal.{Refusal}
use Rattle.ir_core.specs.Given.{local_names}
use Rattle.ir_core.specs.Typing.{scope_of}
use Rattle.ir_core.specs.NameRefusals.{at, is_before, repeated, of_type, repeated_by_line, global_names, of_global, in_heading, of_block}
use Rattle.item_names.specs.Repeated.{type_entry}

abbrev pub of_heading : Module → Function → List Refusal
of_heading m f = at f.line (in_heading m f)

abbrev pub item_refusals : Module → List Refusal
item_refusals m =
    repeated [] (map type_entry m.types) ++ flat_map (of_type m) m.types
    ++ repeated_by_line [] (global_names m) ++ flat_map (of_global m) m.globals ++ flat_map (of_heading m) m.functions

-- what is refused behind a function's heading
abbrev pub of_inside : Module → Function → List Refusal
of_inside m f = repeated [] (map (λ n. (n.name, n.line)) (local_names f)) ++ flat_map (of_block (scope_of m f)) f.blocks

-- whether a refusal is told beside what is found
abbrev pub is_told : Refusal → Option Refusal → Bool
is_told r None = true
is_told r (Some found) = is_before r found
