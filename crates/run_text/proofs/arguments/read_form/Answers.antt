use Rattle.std.proofs.Common.{◌≡◌, Option, Some, None, option_map, sym, ◌∙◌}
use Rattle.run_text.specs.declared.arguments.Form.{Form}
use Rattle.run_text.specs.Forms.{held, zeros_text, bytes_text}
use Rattle.run_text.proofs.ArgumentForms.{or_second}
use Rattle.run_text.proofs.arguments.read_form.Goals as goal

pub returns-in-Some-2 : goal.returns-in-Some-2
returns-in-Some-2 c =
    let z : ◌≡◌ {A = Option Form} None (option_map held (zeros_text c.args.line.now)) = cc in
    let b : ◌≡◌ {A = Option Form} (Some c.in-Some-2.form) (option_map held (bytes_text c.args.line.now)) = sym c.in-Some-2.is ∙ c.in_ok-form.ensures in
    or_second (zeros_text c.args.line.now) (bytes_text c.args.line.now) _ c.in-Some-2.form z b
