use Rattle.std.proofs.Common.{◌≡◌, ◌∙◌, ap, arith, replicate, false, rules}
use Rattle.reach.specs.Searches.{unmarked}
use Rattle.reach.proofs.Lists.{unmarked_none}
use Rattle.reach.proofs.search.Search.new.Goals as goal

pub returns-clause-room : goal.returns-clause-room
returns-clause-room c =
    let blank : c.in_ok-marks.marks.items ≡ replicate c.args.nodes false = search rules in
    let missing = ap unmarked blank ∙ unmarked_none c.args.nodes in
    omega (arith, c.in_ok-waiting.ensures.len, c.in_ok-waiting.ensures.capacity)
