use Rattle.std.proofs.Common.{◌≡◌, ◌++◌, ◌+◌, ◌-◌, ◌/◌, ◌%◌, ◌∷◌, [], List, suc, sym, ap, ◌∙◌, append_assoc, arith}
use Rattle.mem_model.specs.declared.memory.Byte.TheVariants.{Num}
use Rattle.mem_model.specs.Words.{number_bytes}
use Rattle.first_memory.proofs.contents.add_number.Goals as goal

pub loop-turn-preserved : goal.loop-turn-preserved
loop-turn-preserved c =
    let i = c.loop-turn._turn in
    let size = c.args.size in
    let n = c.loop-turn.rest in
    let e : size - i ≡ suc (size - (i + 1)) = omega arith in
    ap (λ (bytes : List _). bytes ++ number_bytes (size - (i + 1)) (n / 256)) c.in_ok-add.ensures
    ∙ append_assoc c.loop-turn.out.items (Num (n % 256) ∷ []) (number_bytes (size - (i + 1)) (n / 256))
    ∙ ap (λ k. c.loop-turn.out.items ++ number_bytes k n) (sym e)
    ∙ c.loop-turn.invariant
