use Rattle.std.proofs.Common.{◌≡◌, true, false, ◌∙◌, arith}
use Rattle.std.proofs.lemmas.Grind.{common_steps}
use Rattle.std.specs.List.{list_all}
use Rattle.ir_names.specs.Phis.{agrees_with_first}
use Rattle.ir_names.proofs.PhiLaws.{one_value}
use Rattle.ir_names.proofs.phis.agree.Goals as goal

pub returns-then-not-agrees_with_first : goal.returns-then-not-agrees_with_first
returns-then-not-agrees_with_first c =
    let edges = c.args.edges.now in
    let found : false ≡ list_all (agrees_with_first edges) edges = grind (arith, common_steps) in
    found ∙ one_value edges

pub returns : goal.returns
returns c =
    let edges = c.args.edges.now in
    let found : true ≡ list_all (agrees_with_first edges) edges = grind (arith, common_steps) in
    found ∙ one_value edges
