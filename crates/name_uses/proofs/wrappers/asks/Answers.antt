use Rattle.std.proofs.Common.{◌∙◌}
use Rattle.ir_core.specs.declared.rtl.Rtl.TheVariants.{GetSharedVariables}
use Rattle.name_uses.proofs.WrapperLaws.{calls_is}
use Rattle.name_uses.proofs.wrappers.asks.Goals as goal

pub returns : goal.returns
returns c = c.calls.ensures ∙ calls_is GetSharedVariables c.args.inst.now.kind
