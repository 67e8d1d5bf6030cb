use Rattle.std.proofs.Common.{Contains, subst, sym, ◌∙◌, ap}
use Rattle.std.specs.Option.{option_copied}
use Rattle.io_edge.specs.Files.{content_of, names_of}
use Rattle.io_edge.proofs.Told.{not_untold}
use Rattle.io_edge.proofs.memory.SureInputsInputs.read.Goals as goal

pub unreachable-requires : goal.unreachable-requires
unreachable-requires c =
    not_untold c.self.inside.files c.args.name.now c.self.invariant (subst (λ files. Contains (names_of files) c.args.name.now) (sym c.self.view_is) c.requires.served) (ap (λ files. content_of files c.args.name.now) (sym c.as_slice.ensures) ∙ sym c.content_in.ensures ∙ ap option_copied c.in-None.is)
