use Rattle.std.proofs.Common.{List, [], ◌∷◌, ◌++◌, Bool, sym, ap, subst, ◌∙◌}
use Rattle.std.proofs.lemmas.Result.{IfOk-weaker}
use Rattle.register_hops.specs.declared.hops.Hop.{Hop}
use Rattle.register_hops.specs.declared.nodes.Node.{Node}
use Rattle.register_hops.specs.declared.nodes.Node.TheVariants.{Elsewhere}
use Rattle.register_hops.specs.Hops.{all_hops}
use Rattle.register_hops.specs.Numbered.{AreNodes, JoinNodes, AreReachedRegisters}
use Rattle.register_hops.proofs.NodeLaws.{hops_join}
use Rattle.value_facts.specs.Pointers.{MayBeOther}
use Rattle.pointer_facts.specs.Exact.{IsExact}
use Rattle.pointer_facts.proofs.SideLaws.{elsewhere_are}
use Rattle.pointer_facts.proofs.ExactLaws.{other_exact}
use Rattle.pointer_facts.proofs.pointers.other_row.Goals as goal

pub reached_registers-requires-clause-hops : goal.reached_registers-requires-clause-hops
reached_registers-requires-clause-hops c =
    let m = c.args.numbering.now in
    let P : List Hop → Type 0 = λ hops. JoinNodes m hops in
    subst P (sym c.requires.hops) (hops_join m)

pub reached_registers-requires-clause-roots : goal.reached_registers-requires-clause-roots
reached_registers-requires-clause-roots c =
    let m = c.args.numbering.now in
    let P : List Node → Type 0 = λ roots. AreNodes m roots in
    subst P (sym c.requires.roots) (elsewhere_are m)

pub returns : goal.returns
returns c =
    let m = c.args.numbering.now in
    let given = c.args.roots.now in
    IfOk-weaker c.reached_registers.result (λ (row : List Bool). AreReachedRegisters m c.args.hops.now given row) (λ (row : List Bool). IsExact m (MayBeOther m) row)
    (λ row are.
    let P : List Hop → Type 0 = λ hops. AreReachedRegisters m hops given row in
    let Q : List Node → Type 0 = λ roots. AreReachedRegisters m (all_hops m) roots row in
    other_exact m row (subst Q c.requires.roots (subst P c.requires.hops are)))
    c.reached_registers.ensures
