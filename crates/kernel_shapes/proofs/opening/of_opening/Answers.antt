use Rattle.std.proofs.Common.{◌≡◌, ◌+◌, ◌-◌, length, take, drop, Some, length-drop, arith, ap, sym, ◌∙◌}
use Rattle.std.proofs.lemmas.List.{take_all}
use Rattle.std.specs.List.{flat_map}
use Rattle.ir_core.specs.NameRefusals.{least}
use Rattle.name_tables.specs.Least.{or_first}
use Rattle.shape_facts.proofs.InstLaws.{three_told}
use Rattle.shapes.specs.KernelShape.{shaped, of_opener, is_generic_init, of_behind, of_opening, opening}
use Rattle.kernel_shapes.specs.Seen.{opened_by}
use Rattle.kernel_shapes.proofs.OpeningLaws.{opened_at}
use Rattle.kernel_shapes.proofs.opening.of_opening.Goals as goal

pub returns : goal.returns
returns c =
    let insts = c.args.insts.now in
    let line = c.args.line in
    let place = c.in-Some.place in
    let init = c.index-insts-place.result in
    let n = place + 1 in
    let at : opening insts ≡ Some (opened_by insts place init) = sym c.in-Some.ensures.opened ∙ opened_at insts place init c.in-Some.ensures.within c.index-insts-place.is in
    let behind : take (length insts - n) (drop n insts) ≡ drop n insts = take_all (length insts - n) (drop n insts) (let size = length-drop n insts in omega arith) in
    c.earlier.ensures
    ∙ ap (or_first _) c.earlier-rest.ensures
    ∙ three_told (flat_map (of_opener insts) (take place insts)) (shaped (is_generic_init init) init.line) (of_behind line init.result (drop n insts)) _ _ _
    c.in_ok-before.ensures
    (c.rule-own.ensures ∙ ap (λ b. least (shaped b init.line)) c.is_generic_init.ensures)
    (c.of_behind-behind.ensures ∙ ap (λ x. least (of_behind line x (take (length insts - n) (drop n insts)))) c.as_ref.ensures.value ∙ ap (λ is. least (of_behind line init.result is)) behind)
    ∙ ap (λ o. least (of_opening line insts o)) (sym at)
