use Rattle.std.proofs.Common.{◌-◌, ◌+◌, ◌≡◌, length, take, drop, length-drop, ap, ◌∙◌, arith}
use Rattle.std.proofs.lemmas.List.{take_all}
use Rattle.std.specs.Option.{option_copied}
use Rattle.ir_core.specs.NameRefusals.{least}
use Rattle.name_tables.specs.Least.{or_first}
use Rattle.kernel_shapes.specs.Ends.{of_end}
use Rattle.kernel_shapes.proofs.EndLaws.{ends_back}
use Rattle.kernel_shapes.proofs.ends.of_ends.Goals as goal

pub loop-place-preserved : goal.loop-place-preserved
loop-place-preserved c =
    let insts = c.args.insts.now in
    let place = c.loop-place.place - 1 in
    let i = c.index-insts-place.result in
    let within = c.loop-place.invariant.1 in
    let some = c.loop-place-test.true in
    let n = place + 1 in
    let behind : take (length insts - n) (drop n insts) ≡ drop n insts = take_all (length insts - n) (drop n insts) (let size = length-drop n insts in omega arith) in (
      c.earlier-found.ensures
          ∙ ap (λ o. or_first o c.loop-place.found) (c.of_end-own.ensures ∙ ap (λ is. least (of_end c.args.free (option_copied c.before_place-before.result) i is)) behind ∙ ap (λ o. least (of_end c.args.free o i (drop (place + 1) insts))) c.before_place-before.ensures)
          ∙ ends_back c.args.free insts place c.loop-place.place i c.loop-place.found (omega arith) (omega arith) c.index-insts-place.is c.loop-place.invariant.0,
      omega arith,
    )
