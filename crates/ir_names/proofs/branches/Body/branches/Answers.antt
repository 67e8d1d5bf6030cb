use Rattle.std.proofs.Common.{Some, None, ap, ◌∙◌}
use Rattle.ir_core.specs.declared.module.Module.{Module}
use Rattle.ir_core.specs.declared.module.Function.{Function}
use Rattle.ir_core.specs.Wrappers.{is_in}
use Rattle.ir_core.specs.Typing.{predecessors}
use Rattle.ir_tables.specs.Names.{names_seen}
use Rattle.ir_names.proofs.BranchLaws.{has_source, contains_name}
use Rattle.ir_names.proofs.branches.Body.branches.Goals as goal

pub returns-in-None : goal.returns-in-None
returns-in-None c =
    has_source c.self.inside c.self.invariant c.args.target.now c.as_slice.result.now c.as_slice.ensures None c.in-None.ensures.value c.args.block.now
    ∙ ap (λ (s : Module × Function). is_in (predecessors s.1 c.args.target.now) c.args.block.now) c.self.view_is

pub returns-in-Some : goal.returns-in-Some
returns-in-Some c =
    let set = c.in-Some.set.now in
    c.contains.ensures
    ∙ contains_name set.keys c.as_slice-in-Some.result.now
    ∙ ap (is_in (names_seen set.keys)) c.as_slice-in-Some.ensures
    ∙ has_source c.self.inside c.self.invariant c.args.target.now c.as_slice.result.now c.as_slice.ensures (Some set) c.in-Some.ensures.value c.args.block.now
    ∙ ap (λ (s : Module × Function). is_in (predecessors s.1 c.args.target.now) c.args.block.now) c.self.view_is
