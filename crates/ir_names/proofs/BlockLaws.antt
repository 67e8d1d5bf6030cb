-- What is refused of the instructions of a block, by one after another.
use Rattle.std.proofs.Common.{◌≡◌, ℕ, ◌+◌, ◌<◌, List, ◌∷◌, ◌++◌, length, drop, get_or, Option, Bool, ◌&&◌, sym, ap, ◌∙◌, add-one, drop-cons}
use Rattle.ir_core.specs.declared.instructions.Inst.{Inst}
use Rattle.ir_core.specs.declared.refusal.Refusal.{Refusal}
use Rattle.ir_core.specs.Places.{Name}
use Rattle.ir_core.specs.Typing.{Scope, in_inst}
use Rattle.ir_core.specs.NameRefusals.{at, in_order, is_phi, of_insts, least}
use Rattle.name_tables.specs.Least.{or_first}
use Rattle.name_tables.proofs.RefusalLaws.{first_append, or_first-assoc}

module _ (s : Scope) (b : Name) (insts : List Inst) (n : ℕ) (d i : Inst) (low : n < length insts) (is : i ≡ get_or insts n d) (phis : Bool) where
  abbrev one : List Refusal
  one = at i.line (in_inst s b i ++ in_order phis i.kind)

  -- the rest is this one and the rest behind it
  rest : of_insts s b phis (drop n insts) ≡ one ++ of_insts s b (phis && is_phi i.kind) (drop (n + 1) insts)
  rest = ap (of_insts s b phis) (drop-cons insts n d low ∙ ap (λ k. get_or insts n d ∷ drop k insts) (sym (add-one n)) ∙ ap (λ j. j ∷ drop (n + 1) insts) (sym is))

  pub inst_more : (next : Bool) (found new this : Option Refusal) → next ≡ (phis && is_phi i.kind) → this ≡ least one → new ≡ or_first found this →
      or_first new (least (of_insts s b next (drop (n + 1) insts))) ≡ or_first found (least (of_insts s b phis (drop n insts)))
  inst_more next found new this goes told joined =
      ap (λ p. or_first new (least (of_insts s b p (drop (n + 1) insts)))) goes
      ∙ ap (λ o. or_first o (least (of_insts s b (phis && is_phi i.kind) (drop (n + 1) insts)))) (joined ∙ ap (or_first found) told)
      ∙ or_first-assoc found (least one) (least (of_insts s b (phis && is_phi i.kind) (drop (n + 1) insts)))
      ∙ ap (or_first found) (sym (first_append one (of_insts s b (phis && is_phi i.kind) (drop (n + 1) insts))))
      ∙ ap (λ l. or_first found (least l)) (sym rest)
