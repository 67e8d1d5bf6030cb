use Rattle.std.proofs.Common.{◌≡◌, ◌+◌, ◌≤◌, length, drop}
use Rattle.mem_model.specs.Launching.{buffers_limit}
use Rattle.run_text.specs.LaunchText.{arguments}
use Rattle.run_text.specs.Kept.{kept_lines}
use Rattle.run_text.proofs.Pairs.{put_before}
use Rattle.run_text.proofs.launch.read_args.Given as goal

-- the arguments read so far, before those of the rest, are all
abbrev pub invariant-loop-param : goal.invariant-loop-param
invariant-loop-param l = record {
  all : arguments l.end buffers_limit l.params (kept_lines l.number l.text) ≡ put_before l.args (arguments l.end l.left (drop l.param-index l.params) (kept_lines l.at l.rest));
  within : l.at + length l.rest ≤ l.number + length l.text;
}
