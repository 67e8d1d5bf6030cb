use Rattle.std.proofs.Common.{◌*ℤ◌, refl, sym, ap, ◌∙◌, rules}
use Rattle.std.specs.Int.{w128}
use Rattle.std.specs.Int.RustNames.{FitsSigned}
use Rattle.std.proofs.lemmas.Int.{to_z-of_z}
use Rattle.mem_model.specs.Eval as spec
use Rattle.mem_model.proofs.arithmetic.multiply.Goals as goal

pub returns : goal.returns
returns c =
    let fits : FitsSigned w128 c.exact.result = search rules in
    c.multiplied.ensures (λ read. read c.args.a *ℤ read c.args.b) refl (ap (λ z. spec.signed c.args.width c.args.a *ℤ z) (sym c.exact.ensures.value ∙ sym (to_z-of_z w128 c.exact.result fits)))
