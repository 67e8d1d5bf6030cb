use Rattle.std.proofs.Common.{false, refl, ap, subst, ◌∙◌}
use Rattle.std.specs.Prelude.{◌≡◌, MatchResult}
use Rattle.std.specs.FinMap as fin
use Rattle.mem_model.specs.declared.block.Block.{Block}
use Rattle.mem_model.specs.Memory.{with_block}
use Rattle.mem_model.specs.Kept.{memory_of}
use Rattle.mem_model.specs.Rows.{entries_of}
use Rattle.mem_model.proofs.Calls.{not_found}
use Rattle.mem_model.proofs.RowLaws.{inserted}
use Rattle.mem_model.proofs.shared.Memory.put_block.Goals as goal

pub returns : goal.returns
returns c =
    let block : Block = record { bytes = c.args.bytes; constant = c.args.constant; released = false } in
    let old = c.self.inside.blocks in
    let new = c.insert.new.self in
    let none = not_found (entries_of old) c.args.name (ap (λ m. fin.get m.blocks c.args.name) c.self.view_is ∙ c.requires.new) in
    subst (λ m. MatchResult c.insert.result (λ _. memory_of (entries_of new) ≡ with_block m c.args.name c.args.constant c.args.bytes.items) (λ _. memory_of (entries_of new) ≡ m)) c.self.view_is
    (inserted c.insert.result old new c.args.name block none refl c.insert.ensures)
