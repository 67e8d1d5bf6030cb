use Rattle.std.proofs.Common.{arith, ap}
use Rattle.io_edge.proofs.Bytes.{at_limit, at_end, cut}
use Rattle.io_edge.proofs.transfer.read_file.Goals as goal
use Rattle.io_edge.proofs.transfer.read_file.Goals.{else-loop-filled-test, then-loop-filled-test+in_ok-count+then-count-eq0}

pub returns-clause-bytes : goal.returns-clause-bytes
returns-clause-bytes g c =
    let told = g.I.Inputs.held c.args.inputs.now c.args.name.now in
    let filled = c.loop-filled.filled in
    let front = c.loop-filled.invariant.front in
    elim c.loop-filled-test.branch [
      | else-loop-filled-test w ↦
          cut told c.args.limit filled c.loop-filled-test.bytes.items _ _ c.truncate.ensures.items (ap (λ bytes. bytes.items) w.bytes-is)
          (at_limit told c.args.limit filled c.loop-filled.bytes.items (omega arith) front)
      | then-loop-filled-test+in_ok-count+then-count-eq0 w ↦
          cut told c.args.limit filled c.loop-filled-test.bytes.items _ _ c.truncate.ensures.items (ap (λ bytes. bytes.items) w.bytes-is)
          (at_end _ told c.args.limit filled w.in_ok-count.count c.loop-filled.bytes.items w.read_more.new.buffer.items (c.loop-filled.invariant.same c.args.name.now) w.in_ok-count.ensures.bytes w.if-count-eq0.true (omega arith) front)
    ]
