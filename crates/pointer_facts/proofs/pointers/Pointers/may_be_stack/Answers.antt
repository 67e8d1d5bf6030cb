use Rattle.std.proofs.Common.{◌≡◌, ◌↔◌, true, sym, subst}
use Rattle.ir_core.specs.declared.instructions.Value.{Value}
use Rattle.ir_core.specs.declared.instructions.Value.TheVariants.{Local as LocalValue}
use Rattle.ir_core.specs.declared.module.Module.{Module}
use Rattle.value_facts.specs.Pointers.{spot, MayBeStack}
use Rattle.pointer_facts.proofs.ExactLaws.{stack_read, no_stack}
use Rattle.pointer_facts.proofs.pointers.Pointers.may_be_stack.Goals as goal

pub returns-in-Local : goal.returns-in-Local
returns-in-Local c =
    let kept = c.self.inside in
    let at = c.args.function in
    let x = c.in-Local.name in
    let result = c.is_marked.result in
    let P : Module → Type 0 = λ m. (result ≡ true) ↔ MayBeStack m (spot at (LocalValue x)) in
    let Q : Value → Type 0 = λ v. (result ≡ true) ↔ MayBeStack c.args.self.now (spot at v) in
    subst Q (sym c.in-Local.is) (subst P c.self.view_is (stack_read kept.numbering kept.stack c.self.invariant.stack_row at x result c.is_marked.ensures))

pub returns-in_default : goal.returns-in_default
returns-in_default c = (λ e. let f : ⊥ = cc in absurd f, λ may. absurd (no_stack c.args.self.now c.args.function c.args.value.now c.in_default.not-Local may))
