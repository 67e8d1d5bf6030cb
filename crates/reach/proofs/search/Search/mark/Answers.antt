use Rattle.std.proofs.Common.{◌≡◌, ◌<◌, List, ℕ, [], ◌∷◌, ◌++◌, slice_get, slice_set, Some, true, false, arith, sym, subst, vec_len, vec_capacity}
use Rattle.reach.specs.Searches.{Spread}
use Rattle.reach.proofs.Lists.{unmarked_less}
use Rattle.reach.proofs.Spreads.{spread_marked, spread_fresh, mark_read, pushed_whole}
use Rattle.reach.proofs.search.Search.mark.Goals as goal

pub returns-then-not-index-clause-spread : goal.returns-then-not-index-clause-spread
returns-then-not-index-clause-spread c =
    let marks = c.args.self.now.marks.items in
    let waiting = c.args.self.now.waiting.items in
    let node = c.args.node in
    let free : slice_get marks node ≡ Some false = mark_read marks node c.index.result.now false c.requires.node c.index.ensures c.if-not-index.true in
    let less = unmarked_less marks node free in
    let room = c.requires.room in
    let spare : vec_len c.args.self.now.waiting < vec_capacity c.args.self.now.waiting = omega arith in
    let whole : c.push.new.self.items ≡ waiting ++ node ∷ [] = pushed_whole waiting (waiting ++ node ∷ []) c.push.new.self.items _ (c.push.ensures.succeeds spare) c.push.ensures.items in
    let P : List ℕ → Type 0 = Spread marks waiting (node ∷ []) (slice_set marks node true) in
    subst P (sym whole) (spread_fresh marks waiting node free)

pub returns-else-not-index-clause-spread : goal.returns-else-not-index-clause-spread
returns-else-not-index-clause-spread c =
    spread_marked c.args.self.now.marks.items c.args.self.now.waiting.items c.args.node (mark_read c.args.self.now.marks.items c.args.node c.index.result.now true c.requires.node c.index.ensures c.if-not-index.false)

pub returns-then-not-index-clause-room : goal.returns-then-not-index-clause-room
returns-then-not-index-clause-room c =
    let marks = c.args.self.now.marks.items in
    let less = unmarked_less marks c.args.node (mark_read marks c.args.node c.index.result.now false c.requires.node c.index.ensures c.if-not-index.true) in
    omega (arith, c.requires.room, c.push.ensures.upper_bound, c.push.ensures.capacity)
