use Rattle.std.proofs.Common.{◌≡◌, ◌≤◌, ◌+◌, drop}
use Rattle.ir_core.specs.Tokens.{line_ends}
use Rattle.ir_lex.proofs.place.line_ends.Given as goal

-- those so far and those of the rest are all
abbrev pub invariant-loop-byte : goal.invariant-loop-byte
invariant-loop-byte l = record { small : l.count ≤ l.byte-index; value : l.count + line_ends (drop l.byte-index l.bytes) ≡ line_ends l.bytes }
