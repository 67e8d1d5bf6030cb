use Rattle.std.proofs.Common.{Ok, sym, ap, ◌∙◌, subst, rules}
use Rattle.mem_model.specs.Values.{and_then, operand_words}
use Rattle.interp_local.specs.Operands.{registers}
use Rattle.interp_local.specs.Actions.{words_given}
use Rattle.interp_local.specs.Steps.{IsAnswered}
use Rattle.interp_local.proofs.Answered.{answered_trap, unread, no_pointer, points}
use Rattle.interp_local.proofs.Nexts.{at_inst}
use Rattle.interp_local.proofs.work.take_work.Goals as goal

pub returns-in_err-words : goal.returns-in_err-words
returns-in_err-words c =
    let m = c.args.m.now in
    let s = c.args.s.now in
    let i = c.args.inst.now in
    let a = at_inst m s i c.requires.begins c.requires.stands in
    let e = c.in_err-words.field-0.0 in
    answered_trap m s _ e _
    (unread m s a i c.args.work c.requires.stands c.in-Call.tail c.in-Call.ret c.in-Call.callee c.in-Call.args c.in-Call.is e (sym c.in_err-words.was ∙ c.given.ensures ∙ ap (λ v. and_then (operand_words m (registers m s) v) (λ words. Ok (words_given words))) c.as_slice.ensures))
    (search rules)

pub returns-in_err-at : goal.returns-in_err-at
returns-in_err-at c =
    let m = c.args.m.now in
    let s = c.args.s.now in
    let i = c.args.inst.now in
    let a = at_inst m s i c.requires.begins c.requires.stands in
    let e = c.in_err-at.field-0.0 in
    answered_trap m s _ e _
    (no_pointer m s a i c.args.work c.requires.stands c.in-Call.tail c.in-Call.ret c.in-Call.callee c.in-Call.args c.in-Call.is c.in_ok-words.words e (sym c.in_ok-words.was ∙ c.given.ensures ∙ ap (λ v. and_then (operand_words m (registers m s) v) (λ words. Ok (words_given words))) c.as_slice.ensures) (sym c.in_err-at.was ∙ c.only_pointer.ensures))
    (search rules)

pub returns : goal.returns
returns c =
    let m = c.args.m.now in
    let s = c.args.s.now in
    let i = c.args.inst.now in
    let a = at_inst m s i c.requires.begins c.requires.stands in
    subst (λ r. IsAnswered m s c.store_work.new.s r c.store_work.result)
    (points m s a i c.args.work c.requires.stands c.in-Call.tail c.in-Call.ret c.in-Call.callee c.in-Call.args c.in-Call.is c.in_ok-words.words c.in_ok-at.at (sym c.in_ok-words.was ∙ c.given.ensures ∙ ap (λ v. and_then (operand_words m (registers m s) v) (λ words. Ok (words_given words))) c.as_slice.ensures) (sym c.in_ok-at.was ∙ c.only_pointer.ensures))
    (c.store_work.ensures m i.result a.f a.rest (record { is = c.requires.thread; frames = a.frames; place = c.result_place-register.ensures }))
