use Rattle.std.proofs.Common.{ℕ, List, length, map, ap, sym, ◌∙◌, subst}
use Rattle.std.proofs.lemmas.List.{length-map}
use Rattle.std.specs.Borrow.{Bor}
use Rattle.ir_core.specs.Places.{block_name}
use Rattle.ir_core.specs.declared.module.Block.{Block}
use Rattle.ir_tables.specs.Names.{names_seen, HasPlaces}
use Rattle.ir_tables.proofs.names.locals_of.Goals as goal

pub returns : goal.returns
returns c =
    let names = c.in_ok-registers.ensures in
    record {
      registers = subst (λ (ns : List (List ℕ)). HasPlaces ns c.in_ok-table_of.field-0) (ap names_seen c.as_slice.ensures ∙ names) c.in_ok-table_of.ensures;
      blocks = subst (λ (bs : List Block). HasPlaces (map block_name bs) c.in_ok-table_of_all.field-0) c.as_slice-2.ensures c.in_ok-table_of_all.ensures;
      count = c.len.ensures ∙ sym (length-map c.in_ok-registers.registers (λ (n : Bor (List ℕ)). n.now)) ∙ ap length names;
    }
