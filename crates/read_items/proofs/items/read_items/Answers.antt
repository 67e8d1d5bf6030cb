use Rattle.std.proofs.Common.{◌≡◌, true, false}
use Rattle.std.proofs.lemmas.Result.{err_from_is_err_and}
use Rattle.read_forms.specs.Read.{head}
use Rattle.read_items.specs.Linked.{link_goes}
use Rattle.read_items.specs.Items.{item_goes, items_module_at}
use Rattle.read_items.specs.Joined.{item_seen, step_seen}
use Rattle.read_items.proofs.Joined.{items_first, items_more, items_fail, items_end, items_smaller}
use Rattle.read_items.proofs.items.read_items.Goals as goal

pub loop-pending-init : goal.loop-pending-init
loop-pending-init c = rw (c.new.ensures, c.new-2.ensures, c.new-3.ensures, c.new-4.ensures, c.new-5.ensures) (items_first c.args.ahead)

pub returns-in_err-item : goal.returns-in_err-item
returns-in_err-item c =
    let p = err_from_is_err_and c.from_residual-in_err-item.result c.from_residual-in_err-item.ensures.1 in
    let more : link_goes item_goes c.loop-pending.pending (head c.loop-pending.rest) ≡ true = cc (c.in_ok-goes_on.ensures, c.if-branch.true) in
    rw (p.1, p.2) (items_fail (items_module_at c.args.ahead) c.loop-pending.module c.loop-pending.pending c.loop-pending.rest c.loop-pending.invariant c.in_err-item.field-0.0 more c.in_err-item.ensures)

pub loop-pending-smaller : goal.loop-pending-smaller
loop-pending-smaller c = items_smaller c.loop-pending.pending c.loop-pending.rest (step_seen (c.in_ok-item.item, c.in_ok-item.next)) c.in_ok-item.after c.in_ok-item.ensures

pub loop-pending-preserved : goal.loop-pending-preserved
loop-pending-preserved c =
    let more : link_goes item_goes c.loop-pending.pending (head c.loop-pending.rest) ≡ true = cc (c.in_ok-goes_on.ensures, c.if-branch.true) in
    rw c.in_ok-push_item.ensures (items_more (items_module_at c.args.ahead) c.loop-pending.module c.loop-pending.pending c.loop-pending.rest c.loop-pending.invariant c.in_ok-item.next c.in_ok-item.after (item_seen c.in_ok-item.item) more c.in_ok-item.ensures)

pub returns : goal.returns
returns c =
    let none : link_goes item_goes c.loop-pending.pending (head c.loop-pending.rest) ≡ false = cc (c.in_ok-goes_on.ensures, c.if-branch.false) in
    items_end (items_module_at c.args.ahead) c.loop-pending.module c.loop-pending.pending c.loop-pending.rest c.loop-pending.invariant none
