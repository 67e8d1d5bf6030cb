use Rattle.std.proofs.Common.{◌≡◌, Some, Err, ℤ, [], ◌∷◌, ◌++◌, refl, sym, ◌∙◌, subst, length, rules}
use Rattle.std.specs.Prelude.{slice_get}
use Rattle.std.specs.Int.{w64}
use Rattle.std.specs.Int.RustNames.{FitsSigned}
use Rattle.std.proofs.lemmas.Int.{to_z-of_z}
use Rattle.std.proofs.lemmas.Option.{slice_get_read}
use Rattle.interp_local.specs.Operands.{registers}
use Rattle.interp_local.specs.Addresses.{Reaches}
use Rattle.interp_local.proofs.Elements.{follows_first, follows_trap, follows_on}
use Rattle.interp_local.proofs.addresses.offset.Goals as goal

pub loop-value-init : goal.loop-value-init
loop-value-init c =
    let m = c.args.m.now in
    follows_first m (registers m c.args.s.now) c.args.ty.now c.args.path.now c.new.result (c.new.ensures.well m.types c.requires.sized) (c.new.ensures.offset m.types)

pub returns-in_err-index : goal.returns-in_err-index
returns-in_err-index c =
    let m = c.args.m.now in
    let path = c.args.path.now in
    let n = c.loop-value.value-index in
    let v = c.value-item.result in
    let there : slice_get path n ≡ Some v = slice_get_read path (length path) n v refl (search rules) (search rules) in
    let result_is : c.from_residual.result ≡ Err c.in_err-index.field-0.0 = search rules in
    result_is ∙ follows_trap m (registers m c.args.s.now) c.args.ty.now path c.loop-value.walk n c.loop-value.invariant v there c.in_err-index.field-0.0 (sym c.index.ensures ∙ c.in_err-index.was)

pub loop-value-preserved : goal.loop-value-preserved
loop-value-preserved c =
    let m = c.args.m.now in
    let path = c.args.path.now in
    let n = c.loop-value.value-index in
    let v = c.value-item.result in
    let there : slice_get path n ≡ Some v = slice_get_read path (length path) n v refl (search rules) (search rules) in
    let f = c.loop-value.invariant in
    let i : ℤ = c.in_ok-index.index in
    let fits : FitsSigned w64 i = search rules in
    follows_on m (registers m c.args.s.now) c.args.ty.now path c.loop-value.walk n f v there i c.further-walk.result (sym c.index.ensures ∙ c.in_ok-index.was)
    (subst (λ j. Reaches m.types c.args.ty.now (f.front ++ j ∷ []) c.further-walk.result) (to_z-of_z w64 i fits) (c.further-walk.ensures c.args.ty.now f.front f.reaches))
