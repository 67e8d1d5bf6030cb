use Rattle.std.proofs.Common.{◌≡◌, ◌↔◌, true, subst}
use Rattle.ir_core.specs.declared.module.Module.{Module}
use Rattle.value_facts.specs.Pointers.{register, MayBeStack}
use Rattle.pointer_facts.proofs.ExactLaws.{stack_read}
use Rattle.pointer_facts.proofs.pointers.Pointers.register_may_be_stack.Goals as goal

pub returns : goal.returns
returns c =
    let kept = c.self.inside in
    let at = c.args.function in
    let x = c.args.name.now in
    let result = c.is_marked.result in
    let P : Module → Type 0 = λ m. (result ≡ true) ↔ MayBeStack m (register at x) in
    subst P c.self.view_is (stack_read kept.numbering kept.stack c.self.invariant.stack_row at x result c.is_marked.ensures)
