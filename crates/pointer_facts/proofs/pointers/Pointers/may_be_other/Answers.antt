use Rattle.std.proofs.Common.{◌≡◌, ◌↔◌, true, inl, inr, refl, sym, subst}
use Rattle.ir_core.specs.declared.instructions.Value.{Value}
use Rattle.ir_core.specs.declared.instructions.Value.TheVariants.{Local as LocalValue}
use Rattle.ir_core.specs.declared.module.Module.{Module}
use Rattle.value_facts.specs.Pointers.{spot, MayBeOther}
use Rattle.pointer_facts.proofs.ExactLaws.{other_read, constant_other, no_pointer}
use Rattle.pointer_facts.proofs.pointers.Pointers.may_be_other.Goals as goal

pub returns-in-Local : goal.returns-in-Local
returns-in-Local c =
    let kept = c.self.inside in
    let at = c.args.function in
    let x = c.in-Local.name in
    let result = c.is_marked.result in
    let P : Module → Type 0 = λ m. (result ≡ true) ↔ MayBeOther m (spot at (LocalValue x)) in
    let Q : Value → Type 0 = λ v. (result ≡ true) ↔ MayBeOther c.args.self.now (spot at v) in
    subst Q (sym c.in-Local.is) (subst P c.self.view_is (other_read kept.numbering kept.other c.self.invariant.other_row at x result c.is_marked.ensures))

pub returns-in-Null : goal.returns-in-Null
returns-in-Null c = (λ e. constant_other c.args.self.now c.args.function c.args.value.now (inl c.in-Null.is), λ may. refl)

pub returns-in-Global : goal.returns-in-Global
returns-in-Global c = (λ e. constant_other c.args.self.now c.args.function c.args.value.now (inr (c.in-Global.field-0, c.in-Global.is)), λ may. refl)

pub returns-in-Int : goal.returns-in-Int
returns-in-Int c = (λ e. let f : ⊥ = cc in absurd f, λ may. absurd (no_pointer c.args.self.now c.args.function c.in-Int.field-0 c.args.value.now c.in-Int.is may))
