use Rattle.std.proofs.Common.{ap, sym, ◌∙◌, rules}
use Rattle.std.specs.Int.{w64}
use Rattle.std.specs.Int.RustNames.{FitsSigned}
use Rattle.std.proofs.lemmas.Int.{wrapping_add_is}
use Rattle.mem_model.specs.declared.memory.Ptr.TheVariants.{At}
use Rattle.mem_model.specs.Values.{moved}
use Rattle.interp_local.proofs.addresses.moved.Goals as goal

pub returns-in-At : goal.returns-in-At
returns-in-At c =
    let offset_fits : FitsSigned w64 c.in-At.offset = search rules in
    ap (At c.in-At.block) (wrapping_add_is w64 c.in-At.offset c.args.distance offset_fits c.ranges.distance) ∙ sym (ap (λ p. moved p c.args.distance) c.in-At.is)
