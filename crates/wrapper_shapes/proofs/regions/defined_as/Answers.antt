use Rattle.std.proofs.Common.{length, ◌==◌, ap, sym, ◌∙◌}
use Rattle.std.specs.Option.{option_copied}
use Rattle.wrapper_shapes.proofs.RegionLaws.{no_blocks, no_function, with_some}
use Rattle.wrapper_shapes.proofs.regions.defined_as.Goals as goal

pub returns-in-None : goal.returns-in-None
returns-in-None c = no_function c.args.m.now.functions c.args.name.now (sym c.function_given.ensures ∙ ap option_copied c.in-None.is)

pub returns-then-is_empty : goal.returns-then-is_empty
returns-then-is_empty c =
    no_blocks c.args.m.now.functions c.args.name.now c.in-Some.f.now (sym c.function_given.ensures ∙ ap option_copied c.in-Some.is) (sym c.if-is_empty.true ∙ c.is_empty.ensures ∙ ap (λ bs. length bs == 0) c.as_slice.ensures)

pub returns-else-is_empty : goal.returns-else-is_empty
returns-else-is_empty c =
    with_some c.args.m.now.functions c.args.name.now c.in-Some.f.now (sym c.function_given.ensures ∙ ap option_copied c.in-Some.is) (sym c.if-is_empty.false ∙ c.is_empty.ensures ∙ ap (λ bs. length bs == 0) c.as_slice.ensures)
