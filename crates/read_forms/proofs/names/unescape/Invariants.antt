use Rattle.std.proofs.Common.{◌≡◌, ◌++◌, length}
use Rattle.ir_core.specs.Escapes.{unescaped}
use Rattle.read_forms.proofs.names.unescape.Given as goal

abbrev pub invariant-loop-byte : goal.invariant-loop-byte
invariant-loop-byte l = l.bytes.items ++ unescaped l.rest ≡ unescaped l.text

abbrev pub decreases-loop-byte : goal.decreases-loop-byte
decreases-loop-byte l = length l.rest
