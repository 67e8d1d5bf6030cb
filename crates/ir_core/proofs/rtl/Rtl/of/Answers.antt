use Rattle.std.proofs.Common.{◌≡◌, List, ℕ, false, refl, ap, sym, ◌∙◌}
use Rattle.std.specs.Str.{bytes_eq}
use Rattle.ir_core.specs.EntryPoints.{entry_points}
use Rattle.ir_core.proofs.EntryPoints.{next_among, none_left, not_listed}
use Rattle.ir_core.proofs.rtl.Rtl.of.Goals as goal

pub loop-entry_point-preserved : goal.loop-entry_point-preserved
loop-entry_point-preserved c =
    let other : bytes_eq c.args.name.now c.name.result.now ≡ false = ap (λ (x : List ℕ). bytes_eq x c.name.result.now) (sym c.as_slice.ensures) ∙ sym c.eq.ensures ∙ c.if-eq.false in
    record {
      all = refl;
      rest = next_among entry_points c.args.name.now c.loop-entry_point.entry_point-index _ c.loop-entry_point-test.true (ap (bytes_eq c.args.name.now) (sym c.name.ensures) ∙ other) ∙ c.loop-entry_point.invariant.rest;
    }

pub returns : goal.returns
returns c = not_listed c.args.name.now (sym c.loop-entry_point.invariant.rest ∙ none_left entry_points c.args.name.now c.loop-entry_point.entry_point-index c.loop-entry_point-test.false)
