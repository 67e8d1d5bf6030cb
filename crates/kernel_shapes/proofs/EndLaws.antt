-- What is told of the ends in a block, from an instruction on.
use Rattle.std.proofs.Common.{◌≡◌, ℕ, suc, ◌+◌, ◌<◌, List, ◌∷◌, length, drop, get_or, slice_get, Bool, Option, Some, refl, sym, ap, ◌∙◌, arith}
use Rattle.std.proofs.lemmas.List.{drop_more}
use Rattle.std.proofs.lemmas.Option.{slice_get_read}
use Rattle.ir_core.specs.declared.instructions.Inst.{Inst}
use Rattle.ir_core.specs.declared.refusal.Refusal.{Refusal}
use Rattle.ir_core.specs.NameRefusals.{least}
use Rattle.name_tables.specs.Least.{or_first}
use Rattle.name_tables.proofs.RefusalLaws.{first_append}
use Rattle.shapes.specs.KernelShape.{of_ends}
use Rattle.kernel_shapes.specs.Ends.{before_place, of_end}

-- one instruction more at the front
pub ends_back : (free : Bool) (insts : List Inst) (place next : ℕ) (i : Inst) (found : Option Refusal) → next ≡ suc place → place < length insts → i ≡ get_or insts place i → found ≡ least (of_ends free (before_place insts next) (drop next insts)) →
    or_first (least (of_end free (before_place insts place) i (drop (place + 1) insts))) found ≡ least (of_ends free (before_place insts place) (drop place insts))
ends_back free insts place next i found step low is told =
    let before = before_place insts place in
    let behind = drop (place + 1) insts in
    let one : next ≡ place + 1 = omega arith in
    let there : slice_get insts place ≡ Some i = slice_get_read insts (length insts) place i refl low is in
    let rest : found ≡ least (of_ends free (Some i) behind) = told ∙ ap (λ n. least (of_ends free (before_place insts n) (drop next insts))) step ∙ ap (λ o. least (of_ends free o (drop next insts))) there ∙ ap (λ n. least (of_ends free (Some i) (drop n insts))) one in
    ap (or_first (least (of_end free before i behind))) rest
    ∙ sym (first_append (of_end free before i behind) (of_ends free (Some i) behind))
    ∙ ap (λ is. least (of_ends free before is)) (sym (drop_more insts place i low ∙ ap (λ j. j ∷ behind) (sym is)))
