use Rattle.std.proofs.lemmas.Result.{on_ok_weaker}
use Rattle.register_hops.specs.declared.nodes.Node.TheVariants.{Region}
use Rattle.pointer_facts.specs.SideHops.{IsHopOnSide, IsMainHop, IsSideHop}
use Rattle.pointer_facts.proofs.SideLaws.{adds_both}
use Rattle.pointer_facts.proofs.sides.add_sides.Goals as goal

pub returns : goal.returns
returns c =
    let m = c.args.m.now in
    let mid = c.add_kernels.new.hops in
    let new = c.add_side.new.hops in
    on_ok_weaker c.add_side.result
    (λ second. adds_both (IsMainHop m) (IsHopOnSide m Region) (IsSideHop m) c.args.hops.now mid new c.in_ok-add_kernels.ensures second (λ h. (λ k. k, λ k. k)))
    c.add_side.ensures
