use Rattle.std.proofs.Common.{Ok, Err, refl, ap, subst, rules}
use Rattle.std.specs.Int.{w64}
use Rattle.std.proofs.lemmas.Int.{to_z-of_z}
use Rattle.mem_model.specs.declared.step.Trap.TheVariants.{NoBlock}
use Rattle.mem_model.specs.Thread.{store_own}
use Rattle.thread_state.specs.Stored.{own_block, IsStored}
use Rattle.interp_local.proofs.Moved.{trapped, stored, not_stored, other_thread, own_found}
use Rattle.interp_local.proofs.steps.store_own.Goals as goal

pub returns-then-spot-s : goal.returns-then-spot-s
returns-then-spot-s c = λ m f rest is frames.
    trapped m c.args.s.now _ _ NoBlock (Err NoBlock) is (ap (λ o. store_own o c.args.spot.offset c.args.cell c.args.word) (other_thread m c.args.s.now c.args.spot.thread c.args.spot.number f rest frames c.if-spot-s.true)) refl

pub returns-in_err-store : goal.returns-in_err-store
returns-in_err-store c = λ m f rest is frames.
    let s = c.args.s.now in
    let given = c.store.ensures.stored m is in
    not_stored _ m c.args.spot.thread c.args.spot.number s c.store.new.self _ _ c.in_err-store.field-0.0 _ is
    (subst (λ o. IsStored {U = Unit {0}} (store_own o c.args.spot.offset c.args.cell c.args.word) m c.args.spot.number s c.store.new.self (Err c.in_err-store.field-0.0)) (own_found m s c.args.spot.thread c.args.spot.number f rest frames c.if-spot-s.false)
    (subst (λ r. IsStored {U = Unit {0}} (store_own (own_block m s c.args.spot.number) c.args.spot.offset c.args.cell c.args.word) m c.args.spot.number s c.store.new.self r) c.in_err-store.was
    (subst (λ z. IsStored {U = Unit {0}} (store_own (own_block m s c.args.spot.number) z c.args.cell c.args.word) m c.args.spot.number s c.store.new.self c.store.result) (to_z-of_z w64 c.args.spot.offset (search rules)) given)))
    (search rules)

pub returns : goal.returns
returns c = λ m f rest is frames.
    let s = c.args.s.now in
    let given = c.store.ensures.stored m is in
    stored m c.args.spot.thread c.args.spot.number s c.store.new.self c.go_past.new.self _ _ f rest frames c.if-spot-s.false
    (subst (λ o. IsStored {U = Unit {0}} (store_own o c.args.spot.offset c.args.cell c.args.word) m c.args.spot.number s c.store.new.self (Ok c.in_ok-store.field-0)) (own_found m s c.args.spot.thread c.args.spot.number f rest frames c.if-spot-s.false)
    (subst (λ r. IsStored {U = Unit {0}} (store_own (own_block m s c.args.spot.number) c.args.spot.offset c.args.cell c.args.word) m c.args.spot.number s c.store.new.self r) c.in_ok-store.was
    (subst (λ z. IsStored {U = Unit {0}} (store_own (own_block m s c.args.spot.number) z c.args.cell c.args.word) m c.args.spot.number s c.store.new.self c.store.result) (to_z-of_z w64 c.args.spot.offset (search rules)) given)))
    (λ mid. c.go_past.ensures m mid)
