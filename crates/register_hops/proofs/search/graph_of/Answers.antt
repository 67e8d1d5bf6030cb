use Rattle.std.proofs.Common.{arith, length, ◌<◌, get_or}
use Rattle.register_hops.proofs.SearchLaws.{no_hop, stands_at, graph_more}
use Rattle.register_hops.proofs.search.graph_of.Goals as goal

pub node_number-from-requires-clause-node : goal.node_number-from-requires-clause-node
node_number-from-requires-clause-node c =
    let hops = c.args.hops.now in
    let n = c.loop-hop.hop-index in
    (c.requires.hops (get_or hops n no_hop) (stands_at hops n c.loop-hop-test.true)).0

pub node_number-to-requires-clause-node : goal.node_number-to-requires-clause-node
node_number-to-requires-clause-node c =
    let hops = c.args.hops.now in
    let n = c.loop-hop.hop-index in
    (c.requires.hops (get_or hops n no_hop) (stands_at hops n c.loop-hop-test.true)).1

pub loop-hop-preserved : goal.loop-hop-preserved
loop-hop-preserved c =
    let m = c.args.numbering.now in
    let size = c.loop-hop.invariant.size in
    let within = c.node_number-from.ensures.within in
    let below : c.node_number-from.result < length c.loop-hop.graph = omega (arith, size, within) in
    graph_more m c.args.hops.now c.loop-hop.hop-index c.loop-hop-test.true c.args.count c.loop-hop.graph c.node_number-from.result c.node_number-to.result below c.node_number-from.ensures.same c.node_number-to.ensures.same
    c.loop-hop.invariant c.add.new.self c.in_ok-add.ensures.ok
