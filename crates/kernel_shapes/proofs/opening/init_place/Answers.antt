use Rattle.std.proofs.Common.{ℕ, ◌<◌, length, Option, rules, tests, sym, subst, ap, ◌∙◌}
use Rattle.std.specs.Option.{IfSome}
use Rattle.std.proofs.lemmas.Iterator.{YieldsList-from_slice}
use Rattle.std.proofs.lemmas.Iterator.Search.{position_from_yields_List}
use Rattle.std.proofs.lemmas.Iterator.Adapters.{position_from-zero}
use Rattle.kernel_shapes.specs.Seen.{opened}
use Rattle.kernel_shapes.proofs.OpeningLaws.{is_init, opening_found, within}
use Rattle.kernel_shapes.proofs.opening.init_place.Goals as goal

pub returns-clause-opened : goal.returns-clause-opened
returns-clause-opened c =
    let insts = c.args.insts.now in
    ap (opened insts) (position_from_yields_List is_init _ _ c.position.result c.position.ensures.ran (YieldsList-from_slice insts (cc)) (λ x b q k. search (rules, tests)) ∙ position_from-zero is_init insts) ∙ opening_found insts

pub returns-clause-within : goal.returns-clause-within
returns-clause-within c =
    let insts = c.args.insts.now in
    subst (λ (o : Option ℕ). IfSome o (λ k. k < length insts))
    (sym (position_from_yields_List is_init _ _ c.position.result c.position.ensures.ran (YieldsList-from_slice insts (cc)) (λ x b q k. search (rules, tests)) ∙ position_from-zero is_init insts))
    (within insts)
