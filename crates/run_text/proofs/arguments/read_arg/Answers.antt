use Rattle.std.proofs.Common.{subst, sym, ◌∙◌}
use Rattle.run_text.specs.LaunchText.{arg_form}
use Rattle.run_text.specs.Replies.{Answers}
use Rattle.run_text.proofs.ArgumentForms.{formed}
use Rattle.run_text.proofs.arguments.read_arg.Goals as goal

pub returns-in-Some : goal.returns-in-Some
returns-in-Some c =
    let e = formed c.args.left c.args.ty.now c.requires (arg_form c.args.line.now) c.in-Some.form (sym c.in-Some.is ∙ c.in_ok-form.ensures) in
    subst (λ r. Answers r c.arg_for.result) (sym e) c.arg_for.ensures
