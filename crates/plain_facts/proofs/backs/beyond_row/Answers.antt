use Rattle.std.proofs.Common.{List, sym, subst, ap, ◌≡◌, ◌∙◌}
use Rattle.register_hops.specs.declared.hops.Hop.{Hop}
use Rattle.register_hops.specs.declared.nodes.Node.{Node}
use Rattle.register_hops.specs.Numbered.{AreNodes, JoinNodes}
use Rattle.plain_facts.specs.Backs.{all_backs, all_roots}
use Rattle.plain_facts.proofs.BackLaws.{backs_join, roots_are}
use Rattle.plain_facts.proofs.backs.beyond_row.Goals as goal

pub reached_registers-requires-clause-hops : goal.reached_registers-requires-clause-hops
reached_registers-requires-clause-hops c =
    let m = c.args.numbering.now in
    let P : List Hop → Type 0 = λ hops. JoinNodes m hops in
    subst P (sym (c.as_slice-2.ensures ∙ c.in_ok-hops.ensures)) (backs_join m)

pub reached_registers-requires-clause-roots : goal.reached_registers-requires-clause-roots
reached_registers-requires-clause-roots c =
    let m = c.args.numbering.now in
    let own = c.args.own.now in
    let P : List Node → Type 0 = λ roots. AreNodes m roots in
    let is : c.as_slice-3.result.now ≡ all_roots own (all_backs m) = c.as_slice-3.ensures ∙ c.in_ok-roots.ensures ∙ ap (all_roots own) (c.as_slice.ensures ∙ c.in_ok-hops.ensures) in
    subst P (sym is) (roots_are m own)
