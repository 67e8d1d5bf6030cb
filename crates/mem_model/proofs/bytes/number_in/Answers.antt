use Rattle.std.proofs.Common.{◌<◌, length, ◌+◌, ◌*◌, Some, ap, sym, ◌∙◌, arith}
use Rattle.mem_model.proofs.Spelling.{one_more, seven_bytes, spells_more, part_spoils}
use Rattle.mem_model.proofs.bytes.number_in.Goals as goal

pub returns-in_default : goal.returns-in_default
returns-in_default c = part_spoils c.args.bytes.now _ _ (omega arith) (sym c.number_of.ensures.value ∙ c.in_default.is)

pub overflow_mul-number : goal.overflow_mul-number
overflow_mul-number c =
    let most = seven_bytes (length c.args.bytes.now) c.loop-i.i (omega arith) (omega arith) c.requires in
    record { fits = omega arith }

pub overflow_add-number : goal.overflow_add-number
overflow_add-number c =
    let most = seven_bytes (length c.args.bytes.now) c.loop-i.i (omega arith) (omega arith) c.requires in
    let low : c.in-Some.low < 256 = c.in-Some.ensures.small in
    record { fits = omega arith }

pub loop-i-preserved : goal.loop-i-preserved
loop-i-preserved c =
    let more = one_more (length c.args.bytes.now) c.loop-i.i (omega arith) (omega arith) in
    let low : c.in-Some.low < 256 = c.in-Some.ensures.small in
    record {
      spells = spells_more c.args.bytes.now c.loop-i.i c.in-Some.low c.loop-i.number _ (omega arith) (omega arith) (sym c.number_of.ensures.value ∙ c.in-Some.is) c.loop-i.invariant.spells ∙ ap (λ n. Some (n + 256 * c.loop-i.number)) (sym c.from.ensures);
      small = omega arith;
    }
