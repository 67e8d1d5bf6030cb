use Rattle.std.proofs.Common.{◌≡◌, ◌-◌, ◌*◌, pos, ◌+ℤ◌, length}
use Rattle.ir_core.specs.declared.module.Module.{Module}
use Rattle.mem_model.specs.Thread.{find_in}
use Rattle.mem_model.specs.Regions.{words_in}
use Rattle.thread_state.specs.Seen.{thread_seen, IsThread}
use Rattle.captures.proofs.Gathers.{behind}
use Rattle.captures.proofs.words.words_from.Given as goal

-- the words behind those that are gathered lead to all of them
abbrev pub invariant-loop-at : goal.invariant-loop-at
invariant-loop-at l =
    (length l.words ≡ l.at)
    × ((m : Module) → IsThread m l.s → words_in (find_in (thread_seen m l.s).frames (l.spot.thread, l.spot.number)) l.spot.offset l.count ≡ behind (find_in (thread_seen m l.s).frames (l.spot.thread, l.spot.number)) l.words (l.spot.offset +ℤ pos (8 * l.at)) (l.count - l.at))
