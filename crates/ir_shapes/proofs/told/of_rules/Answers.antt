use Rattle.std.proofs.Common.{ap, ◌∙◌}
use Rattle.std.specs.List.{flat_map}
use Rattle.name_tables.specs.Least.{or_first}
use Rattle.shapes.specs.KernelShape.{kernel_refusals}
use Rattle.shapes.specs.Wrappers.{wrapper_refusals}
use Rattle.shapes.specs.Clauses.{of_clauses, clause_refusals}
use Rattle.shapes.specs.Limits.{limit_refusals}
use Rattle.ir_core.specs.NameRefusals.{least}
use Rattle.shape_facts.proofs.InstLaws.{four_told}
use Rattle.ir_shapes.proofs.told.of_rules.Goals as goal

pub returns : goal.returns
returns c =
    let m = c.args.m.now in
    let kernels = c.in_ok-kernels.kernels in
    let wrappers = c.in_ok-wrappers.wrappers in
    let clauses = c.of_all_clauses.result in
    let limits = c.of_limits.result in
    c.earlier-2.ensures
    ∙ ap (or_first kernels) (c.earlier.ensures ∙ ap (or_first wrappers) c.earlier-sizes.ensures)
    ∙ four_told (kernel_refusals m) (wrapper_refusals m) (clause_refusals m) (limit_refusals m) kernels wrappers clauses limits
    c.in_ok-kernels.ensures c.in_ok-wrappers.ensures (c.of_all_clauses.ensures ∙ ap (λ is. least (flat_map of_clauses is)) c.requires.insts) c.of_limits.ensures
