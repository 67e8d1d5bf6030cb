use Rattle.std.proofs.Common.{rules, ◌≡◌, subst}
use Rattle.ir_core.specs.declared.module.Module.{Module}
use Rattle.register_numbers.specs.Numbers.{AreStarts, register_count}
use Rattle.register_numbers.proofs.Apart.{sum_within}
use Rattle.register_numbers.proofs.numbering.Numbering.number.Goals as goal

pub behind-requires : goal.behind-requires
behind-requires c =
    let starts = c.self.inside.starts in
    let total = c.self.inside.total in
    let Kept : Module → Type 0 = λ m. AreStarts m starts × (total ≡ register_count m) in
    let kept : Kept c.args.self.now = subst Kept c.self.view_is c.self.invariant in
    sum_within c.args.self.now starts total c.args.function c.in_ok-start.start.now c.in_ok-place.place c.args.name.now kept.0 kept.1 (search rules) (search rules)
