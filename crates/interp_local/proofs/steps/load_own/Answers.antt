use Rattle.std.proofs.Common.{Err, refl, sym, ap, ◌∙◌, rules}
use Rattle.std.specs.Int.{w64}
use Rattle.std.proofs.lemmas.Int.{to_z-of_z}
use Rattle.mem_model.specs.declared.step.Trap.TheVariants.{NoBlock}
use Rattle.mem_model.specs.Thread.{load_own}
use Rattle.mem_model.specs.Next.{code_on}
use Rattle.thread_state.specs.Stored.{own_block}
use Rattle.interp_local.proofs.Moved.{trapped, went, moved, other_thread, own_found}
use Rattle.interp_local.proofs.steps.load_own.Goals as goal

pub returns-then-spot-s : goal.returns-then-spot-s
returns-then-spot-s c = λ m x f rest k.
    trapped m c.args.s.now _ _ NoBlock (Err NoBlock) k.is (ap (λ o. load_own o c.args.spot.offset c.args.cell) (other_thread m c.args.s.now c.args.spot.thread c.args.spot.number f rest k.frames c.if-spot-s.true)) refl

pub returns-in_err-word : goal.returns-in_err-word
returns-in_err-word c = λ m x f rest k.
    let s = c.args.s.now in
    trapped m s _ _ c.in_err-word.field-0.0 _ k.is
    (ap (λ o. load_own o c.args.spot.offset c.args.cell) (sym (own_found m s c.args.spot.thread c.args.spot.number f rest k.frames c.if-spot-s.false))
    ∙ ap (λ z. load_own (own_block m s c.args.spot.number) z c.args.cell) (sym (to_z-of_z w64 c.args.spot.offset (search rules)))
    ∙ sym (c.load.ensures.value m k.is)
    ∙ c.in_err-word.was)
    (search rules)

pub returns : goal.returns
returns c = λ m x f rest k.
    let s = c.args.s.now in
    went m s c.go_on.new.self _ _ c.in_ok-word.word
    (ap (λ o. load_own o c.args.spot.offset c.args.cell) (sym (own_found m s c.args.spot.thread c.args.spot.number f rest k.frames c.if-spot-s.false))
    ∙ ap (λ z. load_own (own_block m s c.args.spot.number) z c.args.cell) (sym (to_z-of_z w64 c.args.spot.offset (search rules)))
    ∙ sym (c.load.ensures.value m k.is)
    ∙ c.in_ok-word.was)
    (moved m s c.go_on.new.self (λ b. code_on b x c.in_ok-word.word) f rest (c.go_on.ensures m x k.is k.place) k.frames)
