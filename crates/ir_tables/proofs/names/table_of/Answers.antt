use Rattle.std.proofs.Common.{ℕ, List, Vec, Global, Some, if◌then◌else◌, ap, sym, ◌∙◌}
use Rattle.std.specs.Map.{lookup}
use Rattle.std.specs.Str.{bytes_eq}
use Rattle.ir_tables.specs.Names.{found_place}
use Rattle.ir_tables.proofs.Places.{lookup-insert}
use Rattle.ir_tables.proofs.Naming.{has_one_held, has_one_more}
use Rattle.ir_tables.proofs.names.table_of.Goals as goal

pub loop-at-preserved-then-contains_key : goal.loop-at-preserved-then-contains_key
loop-at-preserved-then-contains_key c = λ x.
    has_one_held c.args.names.now c.loop-at.at _ c.loop-at.table c.loop-at-test.true c.loop-at.invariant x (sym c.contains_key.ensures ∙ c.if-contains_key.true)

pub loop-at-preserved : goal.loop-at-preserved
loop-at-preserved c = λ x.
    ap (lookup (λ (k : Vec ℕ Global). bytes_eq x k.items)) c.in-Ok.ensures.entries
    ∙ lookup-insert (λ (k : Vec ℕ Global). k.items) c.in_ok-from_slice.field-0 c.loop-at.at x c.loop-at.table.entries
    ∙ ap (λ (y : List ℕ). if bytes_eq x y then Some c.loop-at.at else found_place c.loop-at.table x) c.in_ok-from_slice.ensures.items
    ∙ has_one_more c.args.names.now c.loop-at.at _ c.loop-at.table c.loop-at-test.true c.loop-at.invariant x (sym c.contains_key.ensures ∙ c.if-contains_key.false)
