use Rattle.std.proofs.Common.{ap, option_map}
use Rattle.wrapper_shapes.specs.Seen.{known_in, forms_seen}
use Rattle.wrapper_shapes.proofs.WalkLaws.{word_next}
use Rattle.wrapper_shapes.proofs.walks.Walk.note_read.Goals as goal

pub returns-in-Ok : goal.returns-in-Ok
returns-in-Ok c =
    let w = c.args.self.now in
    ap (λ read. record { known = known_in w.known; asked = w.asked; read = read; passed = option_map forms_seen w.passed })
    (word_next w.read.keys c.insert.new.self.keys c.args.place c.requires c.in-Ok.ensures.keys)
