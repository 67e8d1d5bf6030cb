use Rattle.std.proofs.Common.{◌+◌, ◌∙◌, ap, sym, arith, unsigned_abs}
use Rattle.std.specs.Prelude.{if◌then◌else◌, int_div, ◌-ℤ◌}
use Rattle.static_loops.proofs.Ways.{steps_are, steps_small}
use Rattle.static_loops.proofs.turns.trip_count.Goals as goal

pub returns-then-has_turns-clause-value : goal.returns-then-has_turns-clause-value
returns-then-has_turns-clause-value c =
    let l = c.args.range in
    let steps = unsigned_abs (int_div (l.upper -ℤ l.lower) l.increment) in
    ap (λ n. n + 1) (c.unsigned_abs.ensures.value ∙ ap unsigned_abs (steps_are l.lower l.upper l.increment c.requires.0 c.requires.1 c.requires.2))
    ∙ ap (λ b. if b then steps + 1 else 0) (sym c.if-has_turns.true ∙ c.has_turns.ensures)

pub returns-then-has_turns-clause-small : goal.returns-then-has_turns-clause-small
returns-then-has_turns-clause-small c =
    let l = c.args.range in
    let e = c.unsigned_abs.ensures.value ∙ ap unsigned_abs (steps_are l.lower l.upper l.increment c.requires.0 c.requires.1 c.requires.2) in
    let s = steps_small l.lower l.upper l.increment c.requires.0 c.requires.1 c.requires.2 in
    omega arith
