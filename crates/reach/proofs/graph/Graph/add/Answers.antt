use Rattle.std.proofs.Common.{◌<◌, length, ap, arith}
use Rattle.reach.proofs.Added.{within_kept, within_pushed}
use Rattle.reach.proofs.graph.Graph.add.Goals as goal

pub invariant_of-self : goal.invariant_of-self
invariant_of-self c =
    let size = ap length c.self.view_is in
    let low : c.args.from < length c.self.inside.hops.items = omega (arith, c.requires.from) in
    within_kept c.self.inside.hops.items c.args.from c.index_mut.result.now c.push.new.self low c.index_mut.ensures.value c.self.invariant c.in_err-push.ensures.err

pub invariant_of-self-2 : goal.invariant_of-self-2
invariant_of-self-2 c =
    let size = ap length c.self.view_is in
    let low : c.args.from < length c.self.inside.hops.items = omega (arith, c.requires.from) in
    let lower : c.args.to < length c.self.inside.hops.items = omega (arith, c.requires.to) in
    within_pushed c.self.inside.hops.items c.args.from c.index_mut.result.now c.push.new.self low c.index_mut.ensures.value c.self.invariant c.args.to lower c.in_ok-push.ensures.ok
