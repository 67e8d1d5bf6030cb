use Rattle.interp.proofs.Started.{no_captures}
use Rattle.interp.proofs.start.team_memory.Goals as goal

pub put_block-requires : goal.put_block-requires
put_block-requires c = record { new = no_captures c.args.m.now c.args.l.now c.in_ok-memory.memory c.in_ok-memory.ensures }
