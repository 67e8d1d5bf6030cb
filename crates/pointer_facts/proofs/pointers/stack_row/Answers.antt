use Rattle.std.proofs.Common.{List, Bool, sym, subst, ◌∙◌}
use Rattle.std.proofs.lemmas.Result.{IfOk-weaker}
use Rattle.register_hops.specs.declared.nodes.Node.{Node}
use Rattle.register_hops.specs.declared.roots.Origin.TheVariants.{FromStack}
use Rattle.register_hops.specs.Numbered.{AreNodes, AreReachedRegisters}
use Rattle.register_hops.proofs.NodeLaws.{roots_are}
use Rattle.value_facts.specs.Pointers.{MayBeStack}
use Rattle.pointer_facts.specs.Exact.{IsExact}
use Rattle.pointer_facts.proofs.SideLaws.{all_join}
use Rattle.pointer_facts.proofs.ExactLaws.{stack_exact}
use Rattle.pointer_facts.proofs.pointers.stack_row.Goals as goal

pub reached_registers-requires-clause-hops : goal.reached_registers-requires-clause-hops
reached_registers-requires-clause-hops c = all_join c.args.numbering.now c.args.hops.now c.requires.hops

pub reached_registers-requires-clause-roots : goal.reached_registers-requires-clause-roots
reached_registers-requires-clause-roots c =
    let m = c.args.numbering.now in
    let P : List Node → Type 0 = λ roots. AreNodes m roots in
    subst P (sym (c.requires.roots)) (roots_are m FromStack)

pub returns : goal.returns
returns c =
    let m = c.args.numbering.now in
    let hops = c.args.hops.now in
    let given = c.args.roots.now in
    IfOk-weaker c.reached_registers.result (λ (row : List Bool). AreReachedRegisters m hops given row) (λ (row : List Bool). IsExact m (MayBeStack m) row)
    (λ row are. let P : List Node → Type 0 = λ roots. AreReachedRegisters m hops roots row in stack_exact m hops c.requires.hops row (subst P (c.requires.roots) are))
    c.reached_registers.ensures
