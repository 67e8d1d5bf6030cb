use Rattle.std.proofs.Common.{Bor, rules, tests, ◌∙◌}
use Rattle.std.proofs.lemmas.Iterator.{YieldsList-from_slice}
use Rattle.std.proofs.lemmas.Iterator.Consumers.{count_from_yields_List, YieldsList-from_filter}
use Rattle.ir_core.specs.declared.instructions.Inst.{Inst}
use Rattle.ir_core.specs.declared.rtl.Rtl.TheVariants.{TargetInit}
use Rattle.shapes.specs.Facts.{is_call_of}
use Rattle.shapes.specs.Insts.{inst_seen}
use Rattle.kernel_shapes.proofs.KernelLaws.{counted}
use Rattle.kernel_shapes.proofs.kernels.init_count.Goals as goal

pub returns : goal.returns
returns c =
    count_from_yields_List c.filter.result _ c.count.ensures.ran (YieldsList-from_filter _ (λ (i : Bor Inst). is_call_of TargetInit (inst_seen i)) (YieldsList-from_slice c.args.insts.now (cc)) c.filter.ensures.closure (λ x r q k. search (rules, tests)))
    ∙ counted (is_call_of TargetInit) c.args.insts.now
