use Rattle.std.proofs.Common.{ap, ◌∙◌}
use Rattle.run_text.specs.LaunchText.{arg_form}
use Rattle.run_text.specs.Forms.{held_surplus}
use Rattle.run_text.proofs.ArgumentForms.{surplus_held}
use Rattle.run_text.proofs.arguments.surplus.Goals as goal

pub returns : goal.returns
returns c = c.surplus_of.ensures ∙ ap held_surplus c.in_ok-form.ensures ∙ surplus_held (arg_form c.args.line.now)
