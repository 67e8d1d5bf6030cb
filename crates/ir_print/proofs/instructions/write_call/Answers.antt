use Rattle.std.proofs.Common.{append_assoc}
use Rattle.ir_print.proofs.instructions.write_call.Goals as goal

pub returns : goal.returns
returns c =
    let written = rw (c.as_slice.ensures, c.in_ok-write_callee.ensures, c.in_ok-text-2.ensures, c.in_ok-text.ensures, c.tail_word.ensures) at c.write_arguments.ensures in
    simp append_assoc (simp append_assoc at written)
