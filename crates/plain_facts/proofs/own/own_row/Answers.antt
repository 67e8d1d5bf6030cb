use Rattle.std.proofs.Common.{◌≡◌, ◌<◌, length, None, Some, slice_get, slice_set, get_or, sym, ap, ◌∙◌, arith}
use Rattle.std.proofs.lemmas.Option.{slice_get-get_or}
use Rattle.plain_facts.specs.declared.uses.Use.{Use}
use Rattle.plain_facts.specs.declared.own.Own.{Own}
use Rattle.plain_facts.proofs.OwnLaws.{use_at, own_later}
use Rattle.plain_facts.proofs.own.own_row.Goals as goal

pub index-requires : goal.index-requires
index-requires c =
    let d : Use = record { register = 0; released = None } in
    let uses = c.args.uses.now in
    let n = c.loop-used.used-index in
    let low = c.requires (get_or uses n d) (use_at uses n d c.loop-used-test.true) in
    let size = c.loop-used.invariant.0 in
    omega (arith, low, size, c.loop-used.row.ok)

pub index_mut-requires : goal.index_mut-requires
index_mut-requires c =
    let d : Use = record { register = 0; released = None } in
    let uses = c.args.uses.now in
    let n = c.loop-used.used-index in
    let low = c.requires (get_or uses n d) (use_at uses n d c.loop-used-test.true) in
    let size = c.loop-used.invariant.0 in
    omega (arith, low, size, c.loop-used.row.ok)

pub loop-used-preserved : goal.loop-used-preserved
loop-used-preserved c =
    let d : Use = record { register = 0; released = None } in
    let uses = c.args.uses.now in
    let n = c.loop-used.used-index in
    let row = c.loop-used.row.items in
    let k = (get_or uses n d).register in
    let old = c.index.result.now in
    let low = c.requires (get_or uses n d) (use_at uses n d c.loop-used-test.true) in
    let size = c.loop-used.invariant.0 in
    let within : k < length row = omega (arith, low, size) in
    let read : slice_get row k ≡ Some old = slice_get-get_or row k old within ∙ ap Some (sym c.index.ensures) in
    own_later uses n d c.loop-used-test.true c.args.count row _ old c.loop-used.invariant low read (ap (λ (o : Own). slice_set row k o) c.joined.ensures)
