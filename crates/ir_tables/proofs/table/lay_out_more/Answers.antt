use Rattle.std.proofs.Common.{◌≡◌, length, subst, arith}
use Rattle.ir_tables.proofs.Growth.{GrowsUpTo, sound_after, grows_more, grows_all}
use Rattle.ir_tables.proofs.table.lay_out_more.Goals as goal

pub loop-at-preserved : goal.loop-at-preserved
loop-at-preserved c = record {
  sound = sound_after c.args.types.now c.loop-at.table c.lay_out_at-some.new.table c.loop-at.at c.lay_out_at-some.result c.lay_out_at-some.ensures c.loop-at.invariant.sound;
  grows = grows_more c.args.types.now c.loop-at.at c.args.table.now c.loop-at.table c.lay_out_at-some.new.table c.loop-at.some c.lay_out_at-some.result c.loop-at.invariant.grows c.lay_out_at-some.ensures;
}

pub returns-clause-grows : goal.returns-clause-grows
returns-clause-grows c = grows_all c.args.types.now c.args.table.now c.loop-at.table c.loop-at.some (let end : c.loop-at.at ≡ length c.args.types.now = omega arith in subst (λ n. GrowsUpTo c.args.types.now n c.args.table.now c.loop-at.table c.loop-at.some) end c.loop-at.invariant.grows)
