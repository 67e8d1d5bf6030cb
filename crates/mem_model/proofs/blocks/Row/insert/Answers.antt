use Rattle.std.proofs.Common.{Some, cond, ap, ◌∙◌}
use Rattle.std.specs.Prelude.{nat_eq}
use Rattle.mem_model.proofs.Puts.{set_puts}
use Rattle.mem_model.proofs.blocks.Row.insert.Goals as goal

pub returns : goal.returns
returns c = λ k.
    set_puts c.reach.new.self.slots.items c.args.number c.args.block c.in_ok-reach.ensures.reaches k
    ∙ ap (cond (nat_eq c.args.number k) (Some c.args.block)) (c.in_ok-reach.ensures.same k)
