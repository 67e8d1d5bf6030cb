use Rattle.std.proofs.Common.{Some, false, ap, sym, ◌∙◌, rules}
use Rattle.std.specs.Int.{w64}
use Rattle.std.specs.Int.RustNames.{FitsSigned}
use Rattle.std.proofs.lemmas.Int.{to_z-of_z}
use Rattle.mem_model.specs.Words.{cell_size}
use Rattle.mem_model.specs.Memory.{access, Load}
use Rattle.mem_model.specs.Kept.{header_of, word_at}
use Rattle.mem_model.proofs.Calls.{kept_load, load_none}
use Rattle.mem_model.proofs.RowLaws.{found_in}
use Rattle.mem_model.proofs.shared.Memory.read.Goals as goal

pub returns-in-Some : goal.returns-in-Some
returns-in-Some c =
    let b = c.in-Some.block.now in
    let cell = c.args.cell in
    let fits : FitsSigned w64 c.in-At.offset = search rules in
    c.read.ensures
    ∙ ap (λ z. word_at cell b.bytes.items (access (Some (header_of b)) z (cell_size cell) false)) (to_z-of_z w64 c.in-At.offset fits)
    ∙ kept_load _ c.in-At.name b (found_in _ c.in-At.name ∙ sym c.in-Some.ensures) c.in-At.offset cell
    ∙ (λ i. Load (c.self.view_is i) (sym c.in-At.is i) cell)

pub returns-in-None : goal.returns-in-None
returns-in-None c =
    load_none _ c.in-At.name c.in-At.offset c.args.cell (found_in _ c.in-At.name ∙ sym c.in-None.ensures)
    ∙ (λ i. Load (c.self.view_is i) (sym c.in-At.is i) c.args.cell)
