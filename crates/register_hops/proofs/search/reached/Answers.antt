use Rattle.std.proofs.Common.{Bool, Vec, Global}
use Rattle.std.proofs.lemmas.Result.{IfOk-weaker}
use Rattle.reach.specs.Marks.{Marks}
use Rattle.register_hops.specs.Numbered.{AreReached}
use Rattle.register_hops.proofs.SearchLaws.{roots_within, are_reached}
use Rattle.register_hops.proofs.search.reached.Goals as goal

pub reached-requires : goal.reached-requires
reached-requires c =
    roots_within c.args.numbering.now c.args.hops.now c.args.roots.now c.requires.hops c.requires.roots c.in_ok-count.count c.in_ok-count.ensures c.in_ok-graph.graph c.in_ok-graph.ensures c.in_ok-numbers.numbers
    c.as_slice.result.now c.in_ok-numbers.ensures c.as_slice.ensures

pub returns : goal.returns
returns c =
    let m = c.args.numbering.now in
    let hops = c.args.hops.now in
    let roots = c.args.roots.now in
    let given = c.as_slice.result.now in
    let graph = c.in_ok-graph.graph in
    IfOk-weaker c.reached.result (λ (v : Vec Bool Global). Marks graph given v.items) (λ (v : Vec Bool Global). AreReached m hops roots v.items)
    (λ v found. are_reached m hops roots c.requires.hops c.requires.roots c.in_ok-count.count c.in_ok-count.ensures graph c.in_ok-graph.ensures c.in_ok-numbers.numbers given c.in_ok-numbers.ensures c.as_slice.ensures v.items found)
    c.reached.ensures
