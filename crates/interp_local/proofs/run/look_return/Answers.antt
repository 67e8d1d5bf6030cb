use Rattle.std.proofs.Common.{rules}
use Rattle.interp_local.proofs.Looks.{tells_event, tells_return}
use Rattle.interp_local.proofs.run.look_return.Goals as goal

pub returns-then-len-lt2 : goal.returns-then-len-lt2
returns-then-len-lt2 c = λ m word f rest frames. tells_event m c.args.s.now word f rest (search rules) frames

pub returns-else-len-lt2 : goal.returns-else-len-lt2
returns-else-len-lt2 c = λ m word f rest frames. tells_return m c.args.s.now word f rest (search rules) frames
