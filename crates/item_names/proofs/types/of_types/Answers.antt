use Rattle.std.proofs.Common.{◌≡◌, ℕ, ◌+◌, ◌<◌, List, length, get_or, map, Bool, false, Some, not, refl, ap, sym, ◌∙◌, subst, if◌then◌else◌}
use Rattle.std.proofs.lemmas.Option.{slice_get_read}
use Rattle.std.specs.Prelude.{slice_get}
use Rattle.std.specs.List.{list_any}
use Rattle.ir_core.specs.declared.module.TypeDef.{TypeDef}
use Rattle.ir_core.specs.declared.module.Module.{Module}
use Rattle.ir_core.specs.Places.{place_in}
use Rattle.ir_core.specs.Typing.{expects}
use Rattle.ir_core.specs.NameRefusals.{contains_itself}
use Rattle.ir_tables.specs.Names.{found_place, HasPlaces}
use Rattle.name_tables.specs.Least.{or_first, at_line, least_of}
use Rattle.ir_tables.specs.Names.{type_name}
use Rattle.item_names.specs.Circles.{found_parts, parts_at, leads}
use Rattle.item_names.specs.Repeated.{is_place}
use Rattle.item_names.proofs.Contained.{parts_of, on_circle, parts_found}
use Rattle.item_names.proofs.TypeLaws.{TypesTold, one_told, place_is, all_told}
use Rattle.item_names.proofs.types.of_types.Goals as goal

abbrev leads_back : List (List ℕ) → ℕ → Bool
leads_back parts at = list_any (leads parts at (length parts)) (parts_at parts at)

pub loop-at-preserved : goal.loop-at-preserved
loop-at-preserved c =
    let m = c.args.tables.now in
    let types = c.as_slice-types.result.now in
    let same : types ≡ m.types = c.as_slice-types.ensures ∙ ap (λ (n : Module). n.types) c.module.ensures in
    let at = c.loop-at.at in
    let e = c.index-types-at.result in
    let low = subst (λ (ts : List TypeDef). at < length ts) same c.loop-at-test.true in
    let is = subst (λ (ts : List TypeDef). e ≡ get_or ts at e) same c.index-types-at.is in
    let names = subst (λ (ts : List TypeDef). HasPlaces (map type_name ts) c.in_ok-names.names) same c.in_ok-names.ensures in
    let parts : c.in_ok-graph.graph.parts ≡ parts_of (map type_name m.types) m.types = c.in_ok-graph.ensures ∙ c.in_ok-all_parts.ensures ∙ ap (found_parts c.in_ok-names.names) same ∙ parts_found m.types c.in_ok-names.names names in
    let second = not c.stands_at-second.result in
    let which : second ≡ not (is_place at (place_in (map type_name m.types) e.name)) = ap not (c.stands_at-second.ensures ∙ ap (λ (x : List ℕ). is_place at (found_place c.in_ok-names.names x)) c.as_slice.ensures ∙ ap (is_place at) (names e.name)) in
    let here : slice_get m.types at ≡ Some e = slice_get_read m.types (length m.types) at e refl low is in
    let right : second ≡ false → leads_back c.in_ok-graph.graph.parts at ≡ contains_itself m.types e = λ first. ap (λ ps. leads_back ps at) parts ∙ sym (on_circle m.types e at here (place_is at (place_in (map type_name m.types) e.name) (sym which ∙ first))) in
    let told = c.earlier-named.ensures ∙ ap (or_first c.loop-at.found) c.if_second.ensures in
    let typed = c.earlier-typed.ensures ∙ ap (λ o. or_first o c.refused_at.result) told ∙ ap (or_first _) (c.refused_at.ensures ∙ ap (at_line e.line) c.in_type.ensures) in
    let after = c.in_ok-found.ensures ∙ ap (λ o. if second then o else or_first o (at_line e.line (least_of (expects (not (leads_back c.in_ok-graph.graph.parts at)))))) typed in
    subst (λ (ts : List TypeDef). TypesTold m ts (at + 1) c.in_ok-found.found) (sym same) (one_told m at e e low is c.loop-at.found c.in_ok-found.found second (leads_back c.in_ok-graph.graph.parts at) (subst (λ (ts : List TypeDef). TypesTold m ts at c.loop-at.found) same c.loop-at.invariant) which right after)

pub returns : goal.returns
returns c =
    let same : c.as_slice-types.result.now ≡ c.args.tables.now.types = c.as_slice-types.ensures ∙ ap (λ (n : Module). n.types) c.module.ensures in
    all_told c.args.tables.now c.as_slice-types.result.now c.loop-at.at c.loop-at.found same c.loop-at-test.false c.loop-at.invariant
