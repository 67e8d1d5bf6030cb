-- What is told of a module is what is told of its items, or of what stands behind the headings of its functions.
use Rattle.std.proofs.Common.{◌≡◌, List, [], ◌∷◌, ◌++◌, map, Option, refl, sym, ap, ◌∙◌}
use Rattle.std.specs.List.{flat_map}
use Rattle.ir_core.specs.declared.module.Module.{Module}
use Rattle.ir_core.specs.declared.module.Function.{Function}
use Rattle.ir_core.specs.declared.refusal.Refusal.{Refusal}
use Rattle.ir_core.specs.Given.{local_names}
use Rattle.ir_core.specs.Typing.{scope_of}
use Rattle.ir_core.specs.NameRefusals.{least, repeated, of_type, repeated_by_line, global_names, of_global, of_block, of_function, name_refusals}
use Rattle.name_tables.specs.Least.{or_first}
use Rattle.name_tables.proofs.RefusalLaws.{first_append, or_first-assoc, or_first-turned}
use Rattle.item_names.specs.Repeated.{type_entry}
use Rattle.item_names.specs.Items.{of_heading, item_refusals, of_inside}

-- the least of the parts of a list
pub parts_told : (types symbols globals headings : List Refusal) → least (types ++ symbols ++ globals ++ headings) ≡ or_first (or_first (or_first (least types) (least symbols)) (least globals)) (least headings)
parts_told types symbols globals headings =
    first_append (types ++ symbols ++ globals) headings
    ∙ ap (λ o. or_first o (least headings)) (first_append (types ++ symbols) globals ∙ ap (λ o. or_first o (least globals)) (first_append types symbols))

swap : (a b c d : Option Refusal) → or_first (or_first a b) (or_first c d) ≡ or_first (or_first a c) (or_first b d)
swap a b c d =
    or_first-assoc a b (or_first c d)
    ∙ ap (or_first a) (sym (or_first-assoc b c d) ∙ ap (λ o. or_first o d) (or_first-turned b c) ∙ or_first-assoc c b d)
    ∙ sym (or_first-assoc a c (or_first b d))

three : (as_ bs cs : List Refusal) → least (as_ ++ bs ++ cs) ≡ or_first (least as_) (least (bs ++ cs))
three as_ bs cs =
    first_append (as_ ++ bs) cs
    ∙ ap (λ o. or_first o (least cs)) (first_append as_ bs)
    ∙ or_first-assoc (least as_) (least bs) (least cs)
    ∙ ap (or_first (least as_)) (sym (first_append bs cs))

functions_told : (m : Module) (fs : List Function) → least (flat_map (of_function m) fs) ≡ or_first (least (flat_map (of_heading m) fs)) (least (flat_map (of_inside m) fs))
functions_told m [] = refl
functions_told m (f ∷ fs) =
    first_append (of_function m f) (flat_map (of_function m) fs)
    ∙ ap (λ o. or_first o (least (flat_map (of_function m) fs))) (three (of_heading m f) (repeated [] (map (λ n. (n.name, n.line)) (local_names f))) (flat_map (of_block (scope_of m f)) f.blocks))
    ∙ ap (or_first (or_first (least (of_heading m f)) (least (of_inside m f)))) (functions_told m fs)
    ∙ swap (least (of_heading m f)) (least (of_inside m f)) (least (flat_map (of_heading m) fs)) (least (flat_map (of_inside m) fs))
    ∙ ap (λ o. or_first o (or_first (least (of_inside m f)) (least (flat_map (of_inside m) fs)))) (sym (first_append (of_heading m f) (flat_map (of_heading m) fs)))
    ∙ ap (or_first (least (flat_map (of_heading m) (f ∷ fs)))) (sym (first_append (of_inside m f) (flat_map (of_inside m) fs)))

pub all_told : (m : Module) → least (name_refusals m) ≡ or_first (least (item_refusals m)) (least (flat_map (of_inside m) m.functions))
all_told m =
    first_append others (flat_map (of_function m) m.functions)
    ∙ ap (or_first (least others)) (functions_told m m.functions)
    ∙ sym (or_first-assoc (least others) (least (flat_map (of_heading m) m.functions)) (least (flat_map (of_inside m) m.functions)))
    ∙ ap (λ o. or_first o (least (flat_map (of_inside m) m.functions))) (sym (first_append others (flat_map (of_heading m) m.functions)))
  where
    others : List Refusal
    others = repeated [] (map type_entry m.types) ++ flat_map (of_type m) m.types ++ repeated_by_line [] (global_names m) ++ flat_map (of_global m) m.globals
