use Rattle.std.proofs.Common.{take}
use Rattle.std.specs.List.{flat_map}
use Rattle.ir_core.specs.declared.instructions.Inst.{Inst}
use Rattle.ir_core.specs.Typing.{targets_of}
use Rattle.ir_names.specs.Branches.{Grows}
use Rattle.ir_names.proofs.branches.add_insts.Given as goal

abbrev pub invariant-loop-inst : goal.invariant-loop-inst
invariant-loop-inst l = Grows l.block (flat_map (λ (i : Inst). targets_of i.kind) (take l.inst-index l.insts)) l.initial.sources l.sources
