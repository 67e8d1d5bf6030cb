use Rattle.std.proofs.Common.{◌+◌, ℤ, List, ◌∷◌, pos, suc, drop, drop-cons, get_or, ap, sym, ◌∙◌, rules}
use Rattle.std.specs.Int.{w64}
use Rattle.std.specs.Int.RustNames.{FitsSigned}
use Rattle.std.proofs.lemmas.Int.{to_z-of_z}
use Rattle.ir_tables.specs.Walk.{offset_from}
use Rattle.ir_tables.proofs.indexed.Indexed.offset_of.Goals as goal

pub loop-index-init : goal.loop-index-init
loop-index-init c = λ well. (c.new-walk.ensures.well c.args.self.now.types well, c.new-walk.ensures.offset c.args.self.now.types c.args.path.now)

pub returns-in_err-walk : goal.returns-in_err-walk
returns-in_err-walk c = λ well.
    let so_far = c.loop-index.invariant well in
    let path = c.args.path.now in
    let at = c.loop-index.index-index in
    let index = get_or path at (pos 0) in
    let fits : FitsSigned w64 index = search rules in
    c.from_residual.ensures
    ∙ sym (c.in_err-walk.ensures so_far.0 (drop (suc at) path))
    ∙ ap (λ (i : ℤ). offset_from c.args.self.now.types c.loop-index.walk (i ∷ drop (suc at) path)) (to_z-of_z w64 index fits)
    ∙ ap (offset_from c.args.self.now.types c.loop-index.walk) (sym (drop-cons path at (pos 0) c.loop-index-test.true))
    ∙ so_far.1
