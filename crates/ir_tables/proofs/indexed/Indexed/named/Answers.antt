use Rattle.std.proofs.Common.{ap, sym, ◌∙◌, subst, List, length}
use Rattle.std.specs.Borrow.{Bor}
use Rattle.ir_core.specs.declared.module.TypeDef.{TypeDef}
use Rattle.ir_core.specs.declared.module.Module.{Module}
use Rattle.ir_tables.specs.Named.{Serves}
use Rattle.ir_tables.specs.declared.named.Named.TheVariants.{InTable, InList}
use Rattle.ir_tables.proofs.Served.{list_serves}
use Rattle.ir_tables.proofs.indexed.Indexed.named.Goals as goal

pub returns-in-None : goal.returns-in-None
returns-in-None c =
    let types = c.as_slice-types.result in
    let same = c.as_slice-types.ensures ∙ ap (λ (m : Module). m.types) c.self.view_is in
    subst (λ (ts : List TypeDef). Serves ts (InList types (length types.now))) same (list_serves types)
