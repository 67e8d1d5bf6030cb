use Rattle.std.proofs.Common.{sym, ap, ◌∙◌}
use Rattle.std.specs.Str.{bytes_eq}
use Rattle.ir_core.specs.Typing.{targets_of}
use Rattle.ir_core.specs.Wrappers.{is_in}
use Rattle.kernel_shapes.proofs.ExitLaws.{to_one}
use Rattle.kernel_shapes.proofs.exit.goes_to.Goals as goal

pub returns-in-Br : goal.returns-in-Br
returns-in-Br c =
    let x = c.args.name.now in
    let to = c.in-Br.to in
    c.eq.ensures
    ∙ ap (bytes_eq c.as_slice.result.now) c.as_slice-in-Br.ensures
    ∙ ap (λ y. bytes_eq y to) c.as_slice.ensures
    ∙ to_one x to
    ∙ ap (λ k. is_in (targets_of k) x) (sym c.in-Br.is)
