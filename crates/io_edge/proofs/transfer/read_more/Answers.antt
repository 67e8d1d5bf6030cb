use Rattle.std.proofs.Common.{◌<◌, ◌≤◌, ◌+◌, ℕ, arith, refl, length, length-take, length-drop, take, drop, ◌-◌, ◌∙◌, ap}
use borrow.Rule.Slice.PartMut.{post_of, put_mid}
use Rattle.io_edge.proofs.Bytes.{reads_more}
use Rattle.io_edge.proofs.transfer.read_more.Goals as goal

pub returns-clause-bytes : goal.returns-clause-bytes
returns-clause-bytes g c =
    let tail = c.deref_mut.result.now in
    let filled = c.args.filled in
    let room = length tail - filled in
    let size = c.deref_mut.ensures.len in
    let below = c.in_ok-make_room.ensures.room in
    let has_front : filled ≤ length tail = omega (arith, size, below) in
    let fits : filled + length c.read.new.buf ≤ c.make_room.new.buffer.len = omega (arith, size, below, length-take {A = ℕ}, length-drop {A = ℕ}) in
    let has_room : 0 < length c.read.new.buf = omega (arith, size, below, length-take {A = ℕ}, length-drop {A = ℕ}) in
    reads_more _ _ filled c.in_ok-read.field-0 c.make_room.new.buffer.len c.args.buffer.now.items tail c.read.new.buf (post_of filled room tail) (drop (length (put_mid filled room tail c.read.new.buf)) c.make_room.new.buffer.items)
    refl (ap (take filled) c.deref_mut.ensures.value ∙ c.in_ok-make_room.ensures.front) has_front fits has_room c.in_ok-read.ensures.within c.in_ok-read.ensures.bytes
