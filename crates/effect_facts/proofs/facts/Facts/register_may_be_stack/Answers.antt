use Rattle.std.proofs.Common.{◌≡◌, ◌↔◌, true, subst}
use Rattle.ir_core.specs.declared.module.Module.{Module}
use Rattle.value_facts.specs.Pointers.{register, MayBeStack}
use Rattle.effect_facts.proofs.facts.Facts.register_may_be_stack.Goals as goal

pub returns : goal.returns
returns c =
    let P : Module → Type 0 = λ m. (c.register_may_be_stack.result ≡ true) ↔ MayBeStack m (register c.args.function c.args.name.now) in
    subst P c.self.view_is c.register_may_be_stack.ensures
