use Rattle.effect_facts.proofs.EffectLaws.{accesses_mark}
use Rattle.effect_facts.proofs.insts.accesses_other.Goals as goal

pub returns-in-Some : goal.returns-in-Some
returns-in-Some c = accesses_mark c.args.pointers.now c.args.at c.args.inst.now c.in-Some.pointer.now c.may_be_other.result c.in-Some.ensures c.may_be_other.ensures
