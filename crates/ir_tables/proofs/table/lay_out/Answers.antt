use Rattle.std.proofs.Common.{◌<◌, ℕ, sym, subst, arith}
use Rattle.ir_tables.specs.Table.{count, IsSettled}
use Rattle.ir_tables.specs.declared.table.Table.{Table}
use Rattle.ir_tables.proofs.Growth.{sound_first, sound_after, whole, count-le}
use Rattle.ir_tables.proofs.table.lay_out.Goals as goal

pub loop-at-init : goal.loop-at-init
loop-at-init c = sound_first c.args.types.now (record { places = c.args.places; known = c.in_ok-nothing_known.field-0 }) c.requires c.in_ok-nothing_known.ensures.0 c.in_ok-nothing_known.ensures.1

pub loop-at-preserved : goal.loop-at-preserved
loop-at-preserved c = sound_after c.args.types.now c.loop-at.table c.lay_out_at.new.table _ c.lay_out_at.result c.lay_out_at.ensures c.loop-at.invariant

pub loop-smaller : goal.loop-smaller
loop-smaller c =
    let more : count c.loop.table.known < count c.lay_out_more.new.table.known = c.loop-test.ensures.grows in
    let fit = count-le c.lay_out_more.new.table.known in
    let size = c.loop-test.ensures.sound.size in
    omega arith

pub returns : goal.returns
returns c =
    let settled = subst (λ (t : Table). (at : ℕ) → IsSettled c.args.types.now t at) (sym c.loop-test.ensures.grows.0) c.loop-test.ensures.grows.1 in
    whole c.args.types.now c.lay_out_more.new.table c.loop-test.ensures.sound settled
