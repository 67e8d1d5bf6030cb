use Rattle.std.proofs.Common.{subst}
use Rattle.ir_core.specs.declared.module.Module.{Module}
use Rattle.call_paths.specs.declared.calls.Calls.{Calls}
use Rattle.call_paths.specs.Known.{AreCalls, IsRowOf}
use Rattle.call_paths.specs.Runs.{ReachesRegion}
use Rattle.call_paths.proofs.calls.Calls.of.Goals as goal

pub returns : goal.returns
returns c =
    let Reaching : Module → Type 0 = λ m. IsRowOf (ReachesRegion m) c.in_ok-reaching.reaching in
    let found : Calls = record {
      main = c.in_ok-main.main;
      region = c.in_ok-region.region;
      reaching = c.in_ok-reaching.reaching;
      reaches = c.in_ok-reaches.reaches;
      runs = c.in_ok-runs.runs;
    } in
    let P : Module → Type 0 = λ m. AreCalls m found in
    subst P c.indexed-m.ensures.same (record {
      main = c.in_ok-main.ensures;
      region = c.in_ok-region.ensures;
      reaching = subst Reaching c.module.ensures c.in_ok-reaching.ensures;
      reaches = c.in_ok-reaches.ensures;
      runs = c.in_ok-runs.ensures;
    })
