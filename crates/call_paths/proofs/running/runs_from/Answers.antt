use Rattle.std.proofs.Common.{◌≡◌, List, Bool, Some, length, ap, sym, subst, ◌∙◌, slice_get, arith}
use Rattle.std.proofs.lemmas.Result.{IfOk-weaker}
use Rattle.ir_core.specs.declared.module.Module.{Module}
use Rattle.reach.specs.Chains.{Leads}
use Rattle.reach.specs.Marks.{HopsTo}
use Rattle.call_graph.proofs.ListLaws.{read_at}
use Rattle.call_paths.specs.Known.{IsRowOf}
use Rattle.call_paths.specs.Runs.{Runs}
use Rattle.call_paths.proofs.RunLaws.{kernel_runs, other_runs}
use Rattle.call_paths.proofs.running.runs_from.Goals as goal

pub returns-then-is_kernel : goal.returns-then-is_kernel
returns-then-is_kernel c =
    let m = c.args.m.now in
    let at = c.args.at in
    let hops = c.args.graph.now in
    let f = c.index-as_slice-at.result in
    let all = c.as_slice.ensures ∙ ap (λ (k : Module). k.functions) c.module.ensures in
    let size = ap length all in
    let there : slice_get m.functions at ≡ Some f = read_at c.as_slice.result.now m.functions at f all (omega (arith, c.requires.at, size)) c.index-as_slice-at.is in
    IfOk-weaker c.row_from.result (λ (row : List Bool). IsRowOf (Leads (HopsTo hops) at) row) (λ (row : List Bool). IsRowOf (Runs m at) row)
    (λ row led. kernel_runs m at f there hops row c.requires.graph (sym c.is_kernel.ensures ∙ c.if-is_kernel.true) led) c.row_from.ensures

pub returns-else-is_kernel : goal.returns-else-is_kernel
returns-else-is_kernel c =
    let m = c.args.m.now in
    let at = c.args.at in
    let f = c.index-as_slice-at.result in
    let all = c.as_slice.ensures ∙ ap (λ (k : Module). k.functions) c.module.ensures in
    let size = ap length all in
    let there : slice_get m.functions at ≡ Some f = read_at c.as_slice.result.now m.functions at f all (omega (arith, c.requires.at, size)) c.index-as_slice-at.is in
    let P : List Bool → Type 0 = λ row. IsRowOf (Runs m at) row in
    subst P (sym c.new.ensures) (other_runs m at f there (sym c.is_kernel.ensures ∙ c.if-is_kernel.false))
