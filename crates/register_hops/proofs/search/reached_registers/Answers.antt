use Rattle.register_hops.proofs.SearchLaws.{registers_are}
use Rattle.register_hops.proofs.search.reached_registers.Goals as goal

pub returns : goal.returns
returns c = registers_are c.args.numbering.now c.args.hops.now c.args.roots.now c.in_ok-marks.marks.items c.registers_of.result c.in_ok-marks.ensures c.registers_of.ensures
