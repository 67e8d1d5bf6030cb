use Rattle.std.proofs.Common.{◌≡◌, ◌∙◌, ◌<◌, ℕ, List, Bool, Vec, Global, length, get_or, ap, sym, subst, arith}
use Rattle.reach.specs.Marks.{Marks}
use Rattle.reach.proofs.Searching.{Searching, row_read, targets_within, search_begun, search_followed, search_ends, waits_within}
use Rattle.reach.proofs.graph.Graph.reached.Goals as goal

pub loop-node-init : goal.loop-node-init
loop-node-init c = record {
  search = search_begun c.args.self.now c.args.roots.now c.len.result c.in_ok-search.search.marks.items c.mark_all.new.self.marks.items c.in_ok-search.search.waiting.items c.mark_all.new.self.waiting.items c.len.ensures c.in_ok-search.ensures.marks c.in_ok-search.ensures.waiting c.mark_all.ensures.spread;
  room = c.mark_all.ensures.room;
}

pub index-requires : goal.index-requires
index-requires c =
    let low = waits_within c.args.self.now c.args.roots.now c.loop-node.search.marks.items c.loop-node.search.waiting.items c.take_waiting.new.self.waiting.items c.in-Some.node c.loop-node.invariant.search c.in-Some.ensures.waiting in
    let size = ap length c.self.view_is in
    omega arith

pub mark_all-requires-in-Some-clause-nodes : goal.mark_all-requires-in-Some-clause-nodes
mark_all-requires-in-Some-clause-nodes c =
    let hops = c.self.inside.hops.items in
    let targets = c.as_slice.result.now in
    let P : List (List ℕ) → Type 0 = λ hs. Searching hs c.args.roots.now c.loop-node.search.marks.items c.loop-node.search.waiting.items in
    let search = subst P (sym c.self.view_is) c.loop-node.invariant.search in
    let low : c.in-Some.node < length hops = waits_within hops c.args.roots.now c.loop-node.search.marks.items c.loop-node.search.waiting.items c.take_waiting.new.self.waiting.items c.in-Some.node search c.in-Some.ensures.waiting in
    let read : targets ≡ get_or hops c.in-Some.node targets = row_read hops c.in-Some.node targets c.index.result.now low c.as_slice.ensures c.index.ensures in
    targets_within hops c.args.roots.now c.loop-node.search.marks.items c.take_waiting.new.self.marks.items c.loop-node.search.waiting.items c.in-Some.node targets search c.self.invariant c.in-Some.ensures.marks low read

pub loop-node-preserved : goal.loop-node-preserved
loop-node-preserved c =
    let hops = c.args.self.now in
    let targets = c.as_slice.result.now in
    let search = c.loop-node.invariant.search in
    let P : List (List ℕ) → Type 0 = λ hs. c.index.result.now ≡ get_or hs c.in-Some.node c.index.result.now in
    let low : c.in-Some.node < length hops = waits_within hops c.args.roots.now c.loop-node.search.marks.items c.loop-node.search.waiting.items c.take_waiting.new.self.waiting.items c.in-Some.node search c.in-Some.ensures.waiting in
    let read : targets ≡ get_or hops c.in-Some.node targets = row_read hops c.in-Some.node targets c.index.result.now low c.as_slice.ensures (subst P c.self.view_is c.index.ensures) in
    record {
      search = search_followed hops c.args.roots.now c.loop-node.search.marks.items c.take_waiting.new.self.marks.items c.mark_all-in-Some.new.self.marks.items c.loop-node.search.waiting.items c.take_waiting.new.self.waiting.items c.mark_all-in-Some.new.self.waiting.items c.in-Some.node targets search c.in-Some.ensures.waiting c.in-Some.ensures.marks read c.mark_all-in-Some.ensures.spread;
      room = c.mark_all-in-Some.ensures.room;
    }

pub returns : goal.returns
returns c =
    let P : List Bool → Type 0 = Marks c.args.self.now c.args.roots.now in
    let whole = search_ends c.args.self.now c.args.roots.now c.loop-node.search.marks.items c.loop-node.search.waiting.items c.loop-node.invariant.search c.in_default.ensures.waiting in
    let marks : c.into_marks.result.items ≡ c.take_waiting.new.self.marks.items = ap (λ (v : Vec Bool Global). v.items) c.into_marks.ensures in
    subst P (sym (marks ∙ c.in_default.ensures.marks)) whole
