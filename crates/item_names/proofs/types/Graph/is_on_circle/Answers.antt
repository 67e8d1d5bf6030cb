use Rattle.std.proofs.Common.{ℕ, List, length, sym, ap, ◌∙◌}
use Rattle.item_names.specs.Circles.{parts_at, may_lead}
use Rattle.item_names.proofs.Ranks.{no_circle}
use Rattle.item_names.proofs.types.Graph.is_on_circle.Goals as goal

pub returns-then-not-may_lead : goal.returns-then-not-may_lead
returns-then-not-may_lead c =
    let g = c.args.self.now in
    let low =
    ap (λ (ps : List (List ℕ)). may_lead g.ranks c.args.at (parts_at ps c.args.at)) (sym c.as_slice-parts.ensures)
    ∙ ap (λ (rs : List ℕ). may_lead rs c.args.at (parts_at c.as_slice-parts.result.now c.args.at)) (sym c.as_slice.ensures)
    ∙ sym c.may_lead.ensures
    ∙ c.if-not-may_lead.true
    in
    sym (no_circle g.parts g.ranks c.args.at (sym g.tested ∙ c.if-self.true) (length g.parts) low)
