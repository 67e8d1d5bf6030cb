use Rattle.std.proofs.Common.{ap, reverse}
use Rattle.thread_state.specs.Moves.{first_names}
use Rattle.interp_local.proofs.Moved.{allocated}
use Rattle.interp_local.proofs.calls.allocate.Goals as goal

pub returns : goal.returns
returns c = λ m x f rest k.
    allocated m c.args.s.now c.make_block.new.self c.go_on.new.self x c.args.register c.args.size f rest k c.requires.size (ap (λ v. first_names m (reverse v.items)) c.make_block.ensures.frames)
    (c.in_ok-make_block.ensures.seen m f rest k.is k.frames) (λ is place. c.go_on.ensures m x is place)
