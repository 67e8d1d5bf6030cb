use Rattle.run_text.proofs.Widths.{line_wide}
use Rattle.run_text.proofs.launch.read_lines.Goals as goal

pub read_behind_kernel-requires-clause-widths : goal.read_behind_kernel-requires-clause-widths
read_behind_kernel-requires-clause-widths c = line_wide c.args.m.now c.requires.rules c.in-Some.line.bytes.now c.in-Ok.f.now c.in-Ok.ensures
