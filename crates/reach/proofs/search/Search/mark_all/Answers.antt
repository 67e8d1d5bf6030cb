use Rattle.std.proofs.Common.{◌<◌, length, arith}
use Rattle.reach.proofs.Spreads.{spread_more}
use Rattle.reach.proofs.search.Search.mark_all.Goals as goal

pub loop-node-preserved : goal.loop-node-preserved
loop-node-preserved c =
    let low : c.loop-node.node-index < length c.args.nodes.now = omega arith in
    record {
      spread = spread_more c.args.self.now.marks.items c.loop-node.self.marks.items c.mark.new.self.marks.items c.args.self.now.waiting.items c.loop-node.self.waiting.items c.mark.new.self.waiting.items c.args.nodes.now c.loop-node.node-index low c.loop-node.invariant.spread c.mark.ensures.spread;
      room = c.mark.ensures.room;
    }
