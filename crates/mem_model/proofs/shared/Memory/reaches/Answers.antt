use Rattle.std.proofs.Common.{Some, true, ap, sym, ◌∙◌, rules}
use Rattle.std.specs.Int.{w64}
use Rattle.std.specs.Int.RustNames.{FitsSigned}
use Rattle.std.proofs.lemmas.Int.{to_z-of_z}
use Rattle.mem_model.specs.Words.{cell_size}
use Rattle.mem_model.specs.Memory.{Shares, access, Store}
use Rattle.mem_model.specs.Kept.{header_of}
use Rattle.mem_model.specs.Answers.{only_trap}
use Rattle.mem_model.proofs.Calls.{kept_reach, store_none}
use Rattle.mem_model.proofs.RowLaws.{found_in}
use Rattle.mem_model.proofs.shared.Memory.reaches.Goals as goal

pub returns-in-Some : goal.returns-in-Some
returns-in-Some c = λ word.
    let b = c.in-Some.block.now in
    let cell = c.args.cell in
    let fits : FitsSigned w64 c.in-At.offset = search rules in
    c.reaches.ensures
    ∙ ap (λ z. only_trap (access (Some (header_of b)) z (cell_size cell) true)) (to_z-of_z w64 c.in-At.offset fits)
    ∙ kept_reach _ c.in-At.name b (found_in _ c.in-At.name ∙ sym c.in-Some.ensures) c.in-At.offset cell word
    ∙ (λ i. only_trap (Store (c.self.view_is i) (sym c.in-At.is i) cell (Shares word)))

pub returns-in-None : goal.returns-in-None
returns-in-None c = λ word.
    sym (ap only_trap (store_none _ c.in-At.name c.in-At.offset c.args.cell (Shares word) (found_in _ c.in-At.name ∙ sym c.in-None.ensures)))
    ∙ (λ i. only_trap (Store (c.self.view_is i) (sym c.in-At.is i) c.args.cell (Shares word)))
