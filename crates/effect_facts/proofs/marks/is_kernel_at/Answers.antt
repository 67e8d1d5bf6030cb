use Rattle.std.proofs.Common.{sym}
use Rattle.effect_facts.proofs.EffectLaws.{kernel_mark}
use Rattle.effect_facts.proofs.marks.is_kernel_at.Goals as goal

pub returns-in-Some : goal.returns-in-Some
returns-in-Some c = kernel_mark c.args.m.now c.args.at c.in-Some.f.now c.is_kernel.result (sym c.in-Some.ensures.value) c.is_kernel.ensures
