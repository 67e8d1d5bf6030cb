use Rattle.std.proofs.Common.{◌++◌, List, ap, ◌∙◌}
use Rattle.std.specs.List.{flat_map}
use Rattle.ir_core.specs.declared.instructions.Edge.{Edge}
use Rattle.ir_core.specs.declared.module.Module.{Module}
use Rattle.ir_core.specs.declared.module.Function.{Function}
use Rattle.ir_core.specs.FirstForm.{is_scalar}
use Rattle.ir_core.specs.Typing.{in_type, expects, edge, are_edges_from, predecessors, scope_of}
use Rattle.name_tables.specs.Least.{least_of}
use Rattle.ir_names.proofs.phis.phi.Goals as goal

pub returns : goal.returns
returns c =
    let m = c.args.body.now.0 in
    let f = c.args.body.now.1 in
    let ty = c.args.ty.now in
    c.in_phi.ensures
    ∙ ap (λ (s : Module × Function). least_of (in_type s.0 ty ++ expects (is_scalar ty) ++ flat_map (edge (scope_of s.0 s.1) ty) c.as_slice-edges.result.now ++ expects c.in_ok-complete.complete)) c.scope.ensures
    ∙ ap (λ b. least_of (in_type m ty ++ expects (is_scalar ty) ++ flat_map (edge (scope_of m f) ty) c.as_slice-edges.result.now ++ expects b)) c.in_ok-complete.ensures
    ∙ ap (λ (es : List Edge). least_of (in_type m ty ++ expects (is_scalar ty) ++ flat_map (edge (scope_of m f) ty) es ++ expects (are_edges_from (predecessors f c.args.block.now) es))) c.as_slice-edges.ensures
