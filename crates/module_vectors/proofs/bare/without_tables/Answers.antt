use Rattle.std.proofs.Common.{◌≡◌, length, ap, sym, subst, arith}
use Rattle.ir_core.specs.declared.module.Module.{Module}
use Rattle.ir_tables.specs.Indexed.{CanBeCounted}
use Rattle.module_vectors.proofs.Counts.{counted}
use Rattle.module_vectors.proofs.bare.without_tables.Goals as goal

pub bare-requires : goal.bare-requires
bare-requires c =
    let same : length c.module.result.now.functions ≡ length c.args.indexed.functions = ap (λ (m : Module). length m.functions) c.module.ensures in
    let end = c.len-place-end.ensures in
    let past = c.loop-place-test.false in
    subst CanBeCounted (sym c.into_module.ensures) (counted c.args.indexed c.loop-place.place (omega arith) c.loop-place.invariant)
