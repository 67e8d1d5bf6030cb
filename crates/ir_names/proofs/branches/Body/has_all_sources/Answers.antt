use Rattle.std.proofs.Common.{Some, None, is_some, ap, ◌∙◌}
use Rattle.std.specs.List.{list_all}
use Rattle.ir_core.specs.declared.module.Module.{Module}
use Rattle.ir_core.specs.declared.module.Function.{Function}
use Rattle.ir_core.specs.Wrappers.{is_in}
use Rattle.ir_core.specs.Typing.{predecessors}
use Rattle.ir_tables.specs.Names.{names_seen, found_place}
use Rattle.ir_names.proofs.BranchLaws.{has_all}
use Rattle.ir_names.proofs.branches.Body.has_all_sources.Goals as goal

pub returns-in-None : goal.returns-in-None
returns-in-None c = λ names places.
    has_all c.self.inside c.self.invariant c.args.target.now c.as_slice.result.now c.as_slice.ensures None c.in-None.ensures.value c.args.given.now names places
    ∙ ap (λ (s : Module × Function). list_all (is_in names) (predecessors s.1 c.args.target.now)) c.self.view_is

pub returns-in-Some : goal.returns-in-Some
returns-in-Some c = λ names places.
    c.are_given.ensures
    ∙ ap (λ ks. list_all (λ x. is_some (found_place c.args.given.now x)) (names_seen ks)) c.as_slice-in-Some.ensures.keys
    ∙ has_all c.self.inside c.self.invariant c.args.target.now c.as_slice.result.now c.as_slice.ensures (Some c.in-Some.set.now) c.in-Some.ensures.value c.args.given.now names places
    ∙ ap (λ (s : Module × Function). list_all (is_in names) (predecessors s.1 c.args.target.now)) c.self.view_is
