use Rattle.std.proofs.Common.{ℕ, List, ◌+◌, ◌-◌, ap, ◌∙◌}
use Rattle.ir_core.specs.Layout.{named_parts}
use Rattle.ir_tables.proofs.Served.{named_further}
use Rattle.ir_tables.proofs.offsets.list_parts.Goals as goal

pub loop-preserved : goal.loop-preserved
loop-preserved c =
    ap (λ (y : List ℕ). named_parts (c.args.depth - (c.loop.counter + 1)) c.args.types.now y) c.in-Some-Named.next-is
    ∙ named_further c.args.types.now c.args.depth c.loop.counter c.loop.last.now c.in-Some-Named.next c.in-Some-Named.field-0.now c.loop-test.true c.in-Some-Named.ensures c.in-Some-Named.field-0-is
    ∙ c.loop.invariant
