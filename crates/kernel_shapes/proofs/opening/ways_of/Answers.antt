use Rattle.std.proofs.Common.{◌≡◌, ◌+◌, ◌-◌, length, take, drop, length-drop, arith, ap, sym, ◌∙◌}
use Rattle.std.proofs.lemmas.List.{take_all}
use Rattle.shapes.specs.KernelShape.{ways_of, ways_behind}
use Rattle.kernel_shapes.proofs.OpeningLaws.{ways_at}
use Rattle.kernel_shapes.proofs.opening.ways_of.Goals as goal

pub returns-in-None : goal.returns-in-None
returns-in-None c = ap ways_of c.in-None.ensures.opened

pub returns-in-Some : goal.returns-in-Some
returns-in-Some c =
    let insts = c.args.insts.now in
    let n = c.in-Some.place + 1 in
    let behind : take (length insts - n) (drop n insts) ≡ drop n insts = take_all (length insts - n) (drop n insts) (let size = length-drop n insts in omega arith) in
    c.ways_behind.ensures ∙ ap ways_behind behind ∙ sym (ways_at insts c.in-Some.place c.in-Some.ensures.within) ∙ ap ways_of c.in-Some.ensures.opened
