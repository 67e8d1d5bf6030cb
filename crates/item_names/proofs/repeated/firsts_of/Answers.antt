use Rattle.std.proofs.Common.{◌≡◌, ℕ, ◌+◌, ◌-◌, ◌<◌, List, length, get_or, Some, ap, ◌∙◌, if◌then◌else◌, arith}
use Rattle.std.specs.Borrow.{Bor}
use Rattle.std.specs.Map.{lookup}
use Rattle.std.specs.Str.{bytes_eq}
use Rattle.ir_tables.proofs.Places.{lookup-insert}
use Rattle.item_names.specs.Repeated.{sooner}
use Rattle.item_names.proofs.Entries.{no_entry, with_front}
use Rattle.item_names.proofs.repeated.firsts_of.Goals as goal

pub loop-at-preserved : goal.loop-at-preserved
loop-at-preserved c =
    let at = c.loop-at.at - 1 in
    let es = c.args.entries.now in
    let within = c.loop-at.invariant.within in
    let low : at < length es = omega (arith, within, c.loop-at-test.true) in
    let name = (get_or es at no_entry).0.now in
    let line = (get_or es at no_entry).1 in
    let next : c.loop-at.at ≡ at + 1 = omega (arith, c.loop-at-test.true) in
    record {
      within = omega (arith, within);
      firsts = λ x.
          ap (lookup (λ (k : Bor (List ℕ)). bytes_eq x k.now)) c.in-Ok.ensures.entries
          ∙ lookup-insert (λ (k : Bor (List ℕ)). k.now) (get_or es at no_entry).0 c.sooner-first.result x c.loop-at.table.entries
          ∙ ap (λ o. if bytes_eq x name then Some c.sooner-first.result else o) (c.loop-at.invariant.firsts x)
          ∙ with_front es at no_entry low c.loop-at.at x c.sooner-first.result next (c.sooner-first.ensures ∙ ap (sooner (at, line)) (c.copied.ensures ∙ c.get.ensures.value ∙ c.loop-at.invariant.firsts name));
    }
