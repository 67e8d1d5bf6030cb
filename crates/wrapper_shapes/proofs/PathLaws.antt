-- The instruction at which a walk over a wrapper fails.
use Rattle.std.proofs.Common.{◌≡◌, ℕ, ◌+◌, ◌<◌, List, ◌∷◌, length, drop, get_or, Bool, false, Option, None, sym, ap, ◌∙◌}
use Rattle.std.specs.Borrow.{Bor}
use Rattle.std.specs.Prelude.{option_and_then}
use Rattle.std.proofs.lemmas.List.{drop_more}
use Rattle.ir_core.specs.declared.instructions.Inst.{Inst}
use Rattle.ir_core.specs.declared.refusal.Construct.TheVariants.{WrapperShape}
use Rattle.ir_core.specs.declared.refusal.Refusal.{Refusal}
use Rattle.shapes.specs.Facts.{rule}
use Rattle.shapes.specs.Insts.{insts_seen}
use Rattle.shapes.specs.Walk as walk
use Rattle.wrapper_shapes.specs.Seen.{went}

module _ (next : walk.Walk → Inst → Option walk.Walk) (insts : List (Bor Inst)) (n : ℕ) (d i : Bor Inst) (low : n < length insts) (is : i ≡ get_or insts n d) (before : walk.Walk) where
  here : insts_seen (drop n insts) ≡ i.now ∷ insts_seen (drop (n + 1) insts)
  here = ap insts_seen (drop_more insts n d low ∙ ap (λ j. j ∷ drop (n + 1) insts) (sym is))

  pub fails_here : (after : walk.Walk) (goes : Bool) (all : List Refusal) → walk.failing next (insts_seen (drop n insts)) before ≡ all → goes ≡ false → went goes after ≡ next before i.now → rule WrapperShape false i.now.line ≡ all
  fails_here after goes all so on step =
      let rest = insts_seen (drop (n + 1) insts) in
      let to : ◌≡◌ {A = Option walk.Walk} None (next before i.now) = ap (λ b. went b after) (sym on) ∙ step in
      ap (λ o. walk.or_refused i.now.line o (walk.failing next rest)) to ∙ sym (ap (λ js. walk.failing next js before) here) ∙ so

  pub walks_here : (after : walk.Walk) (goes : Bool) (all : Option walk.Walk) → walk.walked next (insts_seen (drop n insts)) before ≡ all → goes ≡ false → went goes after ≡ next before i.now → None ≡ all
  walks_here after goes all so on step =
      let rest = insts_seen (drop (n + 1) insts) in
      let to : ◌≡◌ {A = Option walk.Walk} None (next before i.now) = ap (λ b. went b after) (sym on) ∙ step in
      ap (option_and_then (walk.walked next rest)) to ∙ sym (ap (λ js. walk.walked next js before) here) ∙ so
