use Rattle.std.proofs.Common.{refl, ◌≡◌, ◌+◌, ℕ, List, Some, Vec, Global, length, take, if◌then◌else◌, ap, sym, ◌∙◌, subst}
use Rattle.std.specs.Str.{bytes_eq}
use Rattle.std.specs.Map.{lookup}
use Rattle.std.proofs.lemmas.Option.{slice_get_read}
use Rattle.std.proofs.lemmas.List.{take_all}
use Rattle.std.proofs.lemmas.Slice.Eq.{bytes_eq-Decides}
use Rattle.indexmap.specs.IndexMap.{get_by}
use Rattle.ir_core.specs.declared.module.TypeDef.{TypeDef}
use Rattle.ir_tables.specs.declared.table.Place.{Place}
use Rattle.ir_tables.specs.Table.{next_place}
use Rattle.ir_tables.proofs.Places.{Fits, named, fits_more, fits_body, lookup-insert}
use Rattle.ir_tables.proofs.table.Places.of.Goals as goal

pub loop-at-preserved : goal.loop-at-preserved
loop-at-preserved c = λ x.
    let d = c.index-types-at.result in
    let key = c.in_ok-from_slice.field-0 in
    let slice : c.as_slice-name.result.now ≡ d.name = c.as_slice-name.ensures ∙ ap (λ (e : TypeDef). e.name) (sym c.index-types-at.is) in
    let name : key.items ≡ d.name = c.in_ok-from_slice.ensures.items ∙ slice in
    let old = lookup (λ (k : Vec ℕ Global). bytes_eq x k.items) c.loop-at.places.entries in
    let mine = lookup (λ (k : Vec ℕ Global). bytes_eq d.name k.items) c.loop-at.places.entries in
    let here = slice_get_read c.args.types.now (length c.args.types.now) c.loop-at.at d refl c.loop-at-test.true c.index-types-at.is in
    let fits = fits_more c.args.types.now c.loop-at.at d x old mine c.loop-at-test.true here (c.loop-at.invariant x) (λ e. ap (λ (y : List ℕ). lookup (λ (k : Vec ℕ Global). bytes_eq y k.items) c.loop-at.places.entries) (sym ((bytes_eq-Decides x d.name).0 e))) in
    let place : c.next_place-place.result ≡ next_place c.loop-at.at mine = c.next_place-place.ensures ∙ ap (λ (y : List ℕ). next_place c.loop-at.at (lookup (λ (k : Vec ℕ Global). bytes_eq y k.items) c.loop-at.places.entries)) slice in
    let now = ap (lookup (λ (k : Vec ℕ Global). bytes_eq x k.items)) c.in-Ok.ensures.entries ∙ lookup-insert (λ (k : Vec ℕ Global). k.items) key c.next_place-place.result x c.loop-at.places.entries in
    let seen = now ∙ ap (λ (y : List ℕ). if bytes_eq x y then Some c.next_place-place.result else old) name ∙ ap (λ (p : Place). if bytes_eq x d.name then Some p else old) place in
    subst (λ o. Fits c.args.types.now o (named x (take (c.loop-at.at + 1) c.args.types.now))) (sym seen) fits

pub returns : goal.returns
returns c = λ x.
    let all = take_all c.loop-at.at c.args.types.now c.loop-at-test.false in
    fits_body c.args.types.now x (get_by (λ (k : Vec ℕ Global). bytes_eq x k.items) c.loop-at.places) (subst (λ ts. Fits c.args.types.now (get_by (λ (k : Vec ℕ Global). bytes_eq x k.items) c.loop-at.places) (named x ts)) all (c.loop-at.invariant x))
