use Rattle.std.proofs.Common.{◌≡◌, ◌++◌, ◌+◌, ◌-◌, ◌∷◌, [], List, suc, sym, ap, ◌∙◌, append_assoc, arith}
use Rattle.mem_model.specs.declared.memory.Byte.TheVariants.{Part}
use Rattle.mem_model.specs.Words.{parts_from}
use Rattle.first_memory.proofs.contents.add_parts.Goals as goal

pub loop-part-preserved : goal.loop-part-preserved
loop-part-preserved c =
    let i = c.loop-part.part in
    let p = c.args.pointer in
    let e : 8 - i ≡ suc (8 - (i + 1)) = omega arith in
    ap (λ (bytes : List _). bytes ++ parts_from (8 - (i + 1)) (i + 1) p) c.in_ok-add.ensures
    ∙ append_assoc c.loop-part.out.items (Part p i ∷ []) (parts_from (8 - (i + 1)) (i + 1) p)
    ∙ ap (λ n. c.loop-part.out.items ++ parts_from n i p) (sym e)
    ∙ c.loop-part.invariant
