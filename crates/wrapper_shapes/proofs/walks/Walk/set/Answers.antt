use Rattle.std.proofs.Common.{◌≡◌, OnOk, ap, option_map, [], sym, subst, ◌∙◌}
use Rattle.shapes.specs.Walk as spec
use Rattle.wrapper_shapes.specs.Seen.{forms_seen, read_after, walk_seen, known_seen}
use Rattle.wrapper_shapes.proofs.WalkLaws.{set_next}
use Rattle.wrapper_shapes.proofs.walks.Walk.set.Goals as goal
use Rattle.wrapper_shapes.proofs.walks.Walk.set.Goals.{in-Ok, in-Err}

pub returns : goal.returns
returns c =
    let w = c.args.self.now in
    let before = walk_seen w in
    elim c.match-insert.branch [
      | in-Ok b ↦
          subst (λ r. OnOk r (walk_seen (record { known = c.insert.new.self; asked = w.asked; read = w.read; passed = w.passed }) ≡ spec.with_known c.args.name.now (known_seen c.args.known) before)) (sym b.result-is)
          (ap (λ known. record { known = known; asked = w.asked; read = read_after [] w.read.keys; passed = option_map forms_seen w.passed })
          (set_next w.known.entries c.insert.new.self.entries c.in_ok-key.key c.args.known c.args.name.now b.in-Ok.ensures.entries (c.in_ok-key.ensures.items ∙ c.as_slice.ensures)))
      | in-Err b ↦
          subst (λ r. OnOk r (walk_seen (record { known = c.insert.new.self; asked = w.asked; read = w.read; passed = w.passed }) ≡ spec.with_known c.args.name.now (known_seen c.args.known) before)) (sym b.result-is) tt
    ]
