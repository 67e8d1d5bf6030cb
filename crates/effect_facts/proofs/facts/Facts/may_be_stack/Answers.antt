use Rattle.std.proofs.Common.{◌≡◌, ◌↔◌, true, subst}
use Rattle.ir_core.specs.declared.module.Module.{Module}
use Rattle.value_facts.specs.Pointers.{spot, MayBeStack}
use Rattle.effect_facts.proofs.facts.Facts.may_be_stack.Goals as goal

pub returns : goal.returns
returns c =
    let P : Module → Type 0 = λ m. (c.may_be_stack.result ≡ true) ↔ MayBeStack m (spot c.args.function c.args.value.now) in
    subst P c.self.view_is c.may_be_stack.ensures
