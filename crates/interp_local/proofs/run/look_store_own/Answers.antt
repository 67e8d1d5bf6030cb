use Rattle.std.proofs.Common.{Err, refl, sym, ap, ◌∙◌, rules}
use Rattle.std.specs.Int.{w64}
use Rattle.std.proofs.lemmas.Int.{to_z-of_z}
use Rattle.mem_model.specs.declared.step.Trap.TheVariants.{NoBlock}
use Rattle.mem_model.specs.Thread.{store_own}
use Rattle.mem_model.specs.Answers.{only_trap}
use Rattle.thread_state.specs.Stored.{own_block}
use Rattle.interp_local.proofs.Moved.{other_thread, own_found}
use Rattle.interp_local.proofs.Looks.{tells_trap, trap_of, tells_store}
use Rattle.interp_local.proofs.run.look_store_own.Goals as goal

pub returns-then-spot-s : goal.returns-then-spot-s
returns-then-spot-s c = λ m word f rest is frames.
    tells_trap _ _ NoBlock (Err NoBlock) (ap (λ o. store_own o c.args.spot.offset c.args.cell word) (other_thread m c.args.s.now c.args.spot.thread c.args.spot.number f rest frames c.if-spot-s.true)) refl

pub returns-in_err-reaches : goal.returns-in_err-reaches
returns-in_err-reaches c = λ m word f rest is frames.
    let s = c.args.s.now in
    tells_trap _ _ c.in_err-reaches.field-0.0 _
    (trap_of _ _
    (sym c.in_err-reaches.was
    ∙ c.reaches.ensures m word is
    ∙ ap (λ z. only_trap (store_own (own_block m s c.args.spot.number) z c.args.cell word)) (to_z-of_z w64 c.args.spot.offset (search rules))
    ∙ ap (λ o. only_trap (store_own o c.args.spot.offset c.args.cell word)) (own_found m s c.args.spot.thread c.args.spot.number f rest frames c.if-spot-s.false)))
    (search rules)

pub returns : goal.returns
returns c = λ m word f rest is frames.
    let s = c.args.s.now in
    tells_store _ _
    (sym c.in_ok-reaches.was
    ∙ c.reaches.ensures m word is
    ∙ ap (λ z. only_trap (store_own (own_block m s c.args.spot.number) z c.args.cell word)) (to_z-of_z w64 c.args.spot.offset (search rules))
    ∙ ap (λ o. only_trap (store_own o c.args.spot.offset c.args.cell word)) (own_found m s c.args.spot.thread c.args.spot.number f rest frames c.if-spot-s.false))
